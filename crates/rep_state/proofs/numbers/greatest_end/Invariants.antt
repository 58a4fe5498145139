use Rattle.std.proofs.Common.{◌≡◌, ℕ, ◌≤◌, length, drop}
use Rattle.rep_model.specs.Fresh.{largest}
use Rattle.rep_state.proofs.numbers.greatest_end.Given as goal

abbrev pub invariant-loop-i : goal.invariant-loop-i
invariant-loop-i l = (l.i ≤ length l.ranges) × (l.most ≡ largest (λ (range : ℕ × ℕ). range.1) (drop l.i l.ranges))

abbrev pub decreases-loop-i : goal.decreases-loop-i
decreases-loop-i l = l.i
