use Rattle.std.proofs.Common.{◌≡◌, ◌+◌, length}
use Rattle.gw_shift.specs.Closing.{taken_by}
use Rattle.gw_shift.proofs.closing.count.Given as goal

-- what was counted, and what is left
abbrev pub invariant-passes : goal.invariant-passes
invariant-passes l = l.total + taken_by l.left ≡ taken_by l.passes

abbrev pub decreases-passes : goal.decreases-passes
decreases-passes l = length l.left
