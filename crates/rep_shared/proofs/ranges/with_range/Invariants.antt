use Rattle.std.proofs.Common.{◌≡◌, ◌++◌, ◌≤◌, ◌-◌, length, drop}
use Rattle.rep_model.specs.Limits.{with_range}
use Rattle.rep_shared.proofs.ranges.with_range.Given as goal

abbrev pub invariant-loop-i : goal.invariant-loop-i
invariant-loop-i l = (l.i ≤ length l.ranges) × (with_range l.fn.range l.ranges ≡ l.made.items ++ with_range l.«open» (drop l.i l.ranges))

abbrev pub decreases-loop-i : goal.decreases-loop-i
decreases-loop-i l = length l.ranges - l.i
