use Rattle.std.proofs.Common.{◌≡◌, ◌≤◌, length, drop}
use Rattle.rep_op.specs.Orders.{put_cmp}
use Rattle.rep_model.specs.Views.{in_order}
use Rattle.rep_plain.specs.inner.Steps.{unacknowledged_by}
use Rattle.rep_plain.proofs.waiting.waiting.Given as goal

abbrev pub invariant-loop-i : goal.invariant-loop-i
invariant-loop-i l = (l.i ≤ length l.ops) × (l.by_name.entries ≡ in_order put_cmp (unacknowledged_by l.ranges l.client (drop l.i l.ops)))

abbrev pub decreases-loop-i : goal.decreases-loop-i
decreases-loop-i l = l.i
