use Rattle.std.proofs.Common.{length}
use Rattle.gw_shift.specs.inner.Closing.{HavePlacesApart}
use Rattle.gw_shift.proofs.closing.are_apart.Given as goal

-- all are apart where those that are left are
abbrev pub invariant-passes : goal.invariant-passes
invariant-passes l = HavePlacesApart l.left → HavePlacesApart l.passes

abbrev pub decreases-passes : goal.decreases-passes
decreases-passes l = length l.left
