use Rattle.std.proofs.Common.{◌≡◌, length}
use Rattle.rep_digest.specs.Reading.{ranges_apart}
use Rattle.rep_digest.proofs.read.order.are_apart.Given as goal

-- what is left decides
abbrev pub invariant-loop-left : goal.invariant-loop-left
invariant-loop-left l = ranges_apart l.ranges ≡ ranges_apart l.left

abbrev pub decreases-loop-left : goal.decreases-loop-left
decreases-loop-left l = length l.left
