use Rattle.std.proofs.Common.{ap, ◌∙◌}
use Rattle.std.specs.FinMap.{find}
use Rattle.rep_op.specs.Orders.{client_cmp}
use Rattle.rep_state.specs.Tables.{by_client}
use Rattle.rep_state.specs.inner.Groups.{or_nothing_held}
use Rattle.rep_state.proofs.grouping.entry_or_nothing.Goals as goal

pub returns-in-Some : goal.returns-in-Some
returns-in-Some c = ap or_nothing_held (c.in-Some.ensures ∙ ap (λ k. find client_cmp k (by_client c.args.table.now.entries)) c.bytes.ensures.octets)

pub returns-in-None : goal.returns-in-None
returns-in-None c = c.requires ∙ ap or_nothing_held (c.in-None.ensures ∙ ap (λ k. find client_cmp k (by_client c.args.table.now.entries)) c.bytes.ensures.octets)
