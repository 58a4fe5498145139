use Rattle.std.proofs.Common.{length}
use Rattle.gw_shift.specs.inner.Closing.{IsElsewhere}
use Rattle.gw_shift.proofs.closing.is_elsewhere.Given as goal

-- none is there where none of those that are left is
abbrev pub invariant-passes : goal.invariant-passes
invariant-passes l = IsElsewhere l.place l.left → IsElsewhere l.place l.passes

abbrev pub decreases-passes : goal.decreases-passes
decreases-passes l = length l.left
