use Rattle.std.proofs.Common.{◌≡◌, length}
use Rattle.rep_digest.specs.Reading.{origins_ascend}
use Rattle.rep_digest.proofs.read.order.origins_ascend.Given as goal

-- what is left decides
abbrev pub invariant-loop-left : goal.invariant-loop-left
invariant-loop-left l = origins_ascend l.origins ≡ origins_ascend l.left

abbrev pub decreases-loop-left : goal.decreases-loop-left
decreases-loop-left l = length l.left
