use Rattle.std.proofs.Common.{◌≡◌, ◌↔◌, length}
use Rattle.gw_answer.proofs.same_out.same_ranges.Given as goal

-- what is left is equal just where the whole is
abbrev pub invariant-pairs : goal.invariant-pairs
invariant-pairs l = (l.left ≡ l.right) ↔ (l.a ≡ l.b)

abbrev pub decreases-pairs : goal.decreases-pairs
decreases-pairs l = length l.left
