use Rattle.std.proofs.Common.{◌↔◌, length}
use Rattle.gw_shift.specs.Closing.{HaveOpening}
use Rattle.gw_shift.proofs.closing.have_opening.Given as goal

-- the passes that are left have it just where all have
abbrev pub invariant-passes : goal.invariant-passes
invariant-passes l = HaveOpening l.opening l.left ↔ HaveOpening l.opening l.passes

abbrev pub decreases-passes : goal.decreases-passes
decreases-passes l = length l.left
