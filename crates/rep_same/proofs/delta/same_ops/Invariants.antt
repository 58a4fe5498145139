use Rattle.std.proofs.Common.{◌≡◌, ◌↔◌, length}
use Rattle.rep_same.proofs.delta.same_ops.Given as goal

-- what is left is equal just where the whole is
abbrev pub invariant-ops : goal.invariant-ops
invariant-ops l = (l.left ≡ l.right) ↔ (l.a ≡ l.b)

abbrev pub decreases-ops : goal.decreases-ops
decreases-ops l = length l.left
