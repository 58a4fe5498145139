use Rattle.std.proofs.Common.{◌≡◌, ◌↔◌, length}
use Rattle.gw_answer.proofs.same_out.same_origins.Given as goal

-- what is left is equal just where the whole is
abbrev pub invariant-origins : goal.invariant-origins
invariant-origins l = (l.left ≡ l.right) ↔ (l.a ≡ l.b)

abbrev pub decreases-origins : goal.decreases-origins
decreases-origins l = length l.left
