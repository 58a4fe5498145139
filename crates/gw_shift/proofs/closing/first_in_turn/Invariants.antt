use Rattle.std.proofs.Common.{ℕ, length}
use Rattle.gw_shift.specs.Closing.{AreKnown, IsStrange}
use Rattle.gw_shift.proofs.closing.first_in_turn.Given as goal

-- what is said of the passes that are left is said of all
abbrev pub invariant-passes : goal.invariant-passes
invariant-passes l = (AreKnown l.history l.left → AreKnown l.history l.passes)
    × ((number : ℕ) → IsStrange l.history l.left number → IsStrange l.history l.passes number)

abbrev pub decreases-passes : goal.decreases-passes
decreases-passes l = length l.left
