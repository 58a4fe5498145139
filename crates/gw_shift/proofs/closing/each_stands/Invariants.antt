use Rattle.std.proofs.Common.{length}
use Rattle.gw_shift.specs.inner.Closing.{EachStands}
use Rattle.gw_shift.proofs.closing.each_stands.Given as goal

-- all stand where those of the passes that are left do
abbrev pub invariant-passes : goal.invariant-passes
invariant-passes l = EachStands l.history l.left → EachStands l.history l.passes

abbrev pub decreases-passes : goal.decreases-passes
decreases-passes l = length l.left
