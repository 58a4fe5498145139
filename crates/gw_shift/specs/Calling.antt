-- What a call does to a history and to the pass that makes it.
use Rattle.std.specs.Prelude.{◌≡◌, ◌<◌, ◌≤◌, ℕ, List, length, Result, Err}
use Rattle.gw_answer.specs.declared.step.Step.{Step}
use Rattle.gw_answer.specs.declared.out.Out.{Out}
use Rattle.gw_answer.specs.declared.refusal.Refusal.{Refusal}
use Rattle.gw_answer.specs.Answers.{refusal_of_fault}
use Rattle.gw_shift.specs.Calls.{Holder}
use Rattle.gw_shift.specs.Passes.{seen_by, with_call, with_calls, held_as, held_from}
use Rattle.gw_shift.specs.declared.fault.CallFault.{CallFault}
use Rattle.gw_shift.specs.declared.fault.CallFault.TheVariants as faults

-- The call got a number above all that the pass has seen. The pass then holds what it held before
-- and the call, and nothing else.
pub record Made (old : Holder) (step : Step) (answer : Result Out Refusal) (number : ℕ)
    (new : Holder) : Type 0 where
  pub later : seen_by old < number
  pub holds : new ≡ with_call old (held_as number step answer)

-- what a pass holds after a call that was refused: the call with its refusal, if it reached the
-- node
abbrev pub NotMade : Holder → Step → CallFault → Holder → Type 0
NotMade old step faults.ShiftFull new = new ≡ old
NotMade old step (faults.Behind held) new = (held < seen_by old) × (new ≡ old)
NotMade old step faults.Memory new = new ≡ old
NotMade old step (faults.Node number fault) new =
    Made old step (Err (refusal_of_fault fault)) number new

-- The first of these calls were made: as many as there are answers, and one at least. Their numbers
-- follow each other, and the first is above all that the pass has seen. The pass then holds what it
-- held before and these calls, and nothing else.
pub record MadeInRow (old : Holder) (steps : List Step) (answers : List (Result Out Refusal))
    (number : ℕ) (new : Holder) : Type 0 where
  pub some : 0 < length answers
  pub few : length answers ≤ length steps
  pub later : seen_by old < number
  pub holds : new ≡ with_calls old (held_from number steps answers)

-- why none of several calls was made: the pass then holds what it held. A refusal of the node is an
-- answer.
abbrev pub NoneMade : Holder → CallFault → Holder → Type 0
NoneMade old faults.ShiftFull new = new ≡ old
NoneMade old (faults.Behind held) new = (held < seen_by old) × (new ≡ old)
NoneMade old faults.Memory new = new ≡ old
NoneMade old (faults.Node number fault) new = ⊥

-- why no deltas are handed on: the pass has seen more calls than the history has, or memory ran out
abbrev pub MayNotTell : Holder → CallFault → Type 0
MayNotTell pass faults.ShiftFull = ⊥
MayNotTell pass (faults.Behind held) = held < seen_by pass
MayNotTell pass faults.Memory = Unit {0}
MayNotTell pass (faults.Node number fault) = ⊥
