use Rattle.std.proofs.Common.{◌≡◌, length}
use Rattle.gw_shift.specs.Closing.{is_held}
use Rattle.gw_shift.proofs.closing.holds.Given as goal

-- one that is left holds it just where any does
abbrev pub invariant-passes : goal.invariant-passes
invariant-passes l = is_held l.number l.left ≡ is_held l.number l.passes

abbrev pub decreases-passes : goal.decreases-passes
decreases-passes l = length l.left
