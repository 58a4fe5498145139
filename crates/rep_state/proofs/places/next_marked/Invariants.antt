use Rattle.rep_state.specs.inner.Interests.{IsPassed}
use Rattle.rep_state.proofs.places.next_marked.Given as goal

abbrev pub invariant-loop-at : goal.invariant-loop-at
invariant-loop-at l = IsPassed l.mark l.places l.from l.at
