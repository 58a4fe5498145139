use Rattle.std.proofs.Common.{◌≡◌, ◌↔◌, length}
use Rattle.rep_same.proofs.delta.same_deltas.Given as goal

-- what is left is equal just where the whole is
abbrev pub invariant-deltas : goal.invariant-deltas
invariant-deltas l = (l.left ≡ l.right) ↔ (l.a ≡ l.b)

abbrev pub decreases-deltas : goal.decreases-deltas
decreases-deltas l = length l.left
