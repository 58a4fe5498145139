use Rattle.std.proofs.Common.{◌∙◌}
use Rattle.rep_shared.specs.inner.Tables.{passed_of}
use Rattle.rep_state.proofs.table.passed.Goals as goal

pub returns : goal.returns
returns c = c.first_limit.ensures ∙ (λ i. passed_of c.args.count (c.any_pending-pending.ensures i) (c.any_parked-parked.ensures i) (c.any_exceptions-exceptions.ensures i))
