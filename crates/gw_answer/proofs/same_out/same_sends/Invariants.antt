use Rattle.std.proofs.Common.{◌≡◌, ◌↔◌, length}
use Rattle.gw_answer.proofs.same_out.same_sends.Given as goal

-- what is left is equal just where the whole is
abbrev pub invariant-sends : goal.invariant-sends
invariant-sends l = (l.left ≡ l.right) ↔ (l.a ≡ l.b)

abbrev pub decreases-sends : goal.decreases-sends
decreases-sends l = length l.left
