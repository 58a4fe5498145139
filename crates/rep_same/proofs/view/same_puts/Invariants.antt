use Rattle.std.proofs.Common.{◌≡◌, ◌↔◌, length}
use Rattle.rep_same.proofs.view.same_puts.Given as goal

-- what is left is equal just where the whole is
abbrev pub invariant-puts : goal.invariant-puts
invariant-puts l = (l.left ≡ l.right) ↔ (l.a ≡ l.b)

abbrev pub decreases-puts : goal.decreases-puts
decreases-puts l = length l.left
