use Rattle.std.proofs.Common.{T, subst}
use Rattle.std.specs.FinMap.{is_sorted}
use Rattle.rep_op.specs.Orders.{operation_cmp}
use Rattle.rep_log.proofs.named_ops.Known.as_slice.Goals as goal

pub returns-clause-ordered : goal.returns-clause-ordered
returns-clause-ordered c = subst (λ es. T (is_sorted operation_cmp es)) c.self.view_is c.self.invariant
