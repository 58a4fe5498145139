use Rattle.std.proofs.Common.{sym, ◌∙◌}
use Rattle.rep_ops.proofs.Loop.{follow_last}
use Rattle.rep_digest.specs.Reading.{is_client_next}
use Rattle.rep_digest.proofs.read.order.is_behind.Goals as goal

pub returns-in-Some : goal.returns-in-Some
returns-in-Some c = c.is_client_next.ensures ∙ sym (follow_last is_client_next c.args.entries.now c.in-Some.last.now c.args.entry.now c.in-Some.ensures.value)
