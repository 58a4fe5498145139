use Rattle.std.proofs.Common.{◌≡◌, ◌≤◌, length, drop}
use Rattle.rep_op.specs.Orders.{operation_cmp}
use Rattle.rep_op.specs.Sets.{operations}
use Rattle.rep_model.specs.Views.{in_order}
use Rattle.rep_shared.proofs.replay.operations_in_order.Given as goal

abbrev pub invariant-loop-i : goal.invariant-loop-i
invariant-loop-i l = (l.i ≤ length l.ops) × (l.known.entries ≡ in_order operation_cmp (operations l.client (drop l.i l.ops)))

abbrev pub decreases-loop-i : goal.decreases-loop-i
decreases-loop-i l = l.i
