use Rattle.std.proofs.Common.{◌≡◌, ◌++◌, length}
use Rattle.gw_shift.specs.inner.Passes.{told_by}
use Rattle.gw_shift.proofs.gathering.copies.Given as goal

-- what was copied, and what is left
abbrev pub invariant-shares : goal.invariant-shares
invariant-shares l = l.all.items ++ told_by l.left ≡ told_by l.shares

abbrev pub decreases-shares : goal.decreases-shares
decreases-shares l = length l.left
