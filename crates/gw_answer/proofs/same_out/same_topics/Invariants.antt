use Rattle.std.proofs.Common.{◌≡◌, ◌↔◌, length}
use Rattle.gw_answer.proofs.same_out.same_topics.Given as goal

-- what is left is equal just where the whole is
abbrev pub invariant-entries : goal.invariant-entries
invariant-entries l = (l.left ≡ l.right) ↔ (l.a ≡ l.b)

abbrev pub decreases-entries : goal.decreases-entries
decreases-entries l = length l.left
