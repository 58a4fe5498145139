use Rattle.std.proofs.Common.{ℕ, length}
use Rattle.gw_shift.specs.Closing.{AreOwn, IsStrangeIn}
use Rattle.gw_shift.proofs.closing.first_strange_call.Given as goal

-- what is said of the calls that are left is said of all
abbrev pub invariant-calls : goal.invariant-calls
invariant-calls l = (AreOwn l.history l.place l.others l.left → AreOwn l.history l.place l.others l.calls)
    × ((number : ℕ) → IsStrangeIn l.history l.place l.others l.left number → IsStrangeIn l.history l.place l.others l.calls number)

abbrev pub decreases-calls : goal.decreases-calls
decreases-calls l = length l.left
