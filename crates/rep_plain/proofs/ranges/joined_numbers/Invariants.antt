use Rattle.std.proofs.Common.{◌≡◌, ◌≤◌, length, drop}
use Rattle.std.specs.List.{filter_map}
use Rattle.rep_model.specs.Limits.{joined}
use Rattle.rep_plain.specs.inner.Steps.{range_numbers}
use Rattle.rep_plain.proofs.ranges.joined_numbers.Given as goal

abbrev pub invariant-loop-i : goal.invariant-loop-i
invariant-loop-i l = (l.i ≤ length l.ranges) × (l.made.items ≡ joined (filter_map (range_numbers l.origin) (drop l.i l.ranges)))

abbrev pub decreases-loop-i : goal.decreases-loop-i
decreases-loop-i l = l.i
