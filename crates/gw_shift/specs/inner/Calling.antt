-- What a call does to a history and to the pass that makes it.
use Rattle.std.specs.Prelude.{◌≡◌, ◌<◌, ◌≤◌, ◌+◌, ℕ, List, [], ◌∷◌, ◌++◌, length, Result}
use Rattle.gw_answer.specs.declared.step.Step.{Step}
use Rattle.gw_answer.specs.declared.out.Out.{Out}
use Rattle.gw_answer.specs.declared.refusal.Refusal.{Refusal}
use Rattle.gw_shift.specs.Calls.{Call, Holder}
use Rattle.gw_shift.specs.Passes.{seen_by}
use Rattle.gw_shift.specs.inner.Passes.{call, calls_of}
use Rattle.gw_shift.specs.declared.fault.CallFault.{CallFault}
use Rattle.gw_shift.specs.declared.fault.CallFault.TheVariants as faults

-- the call is the next of the history, under its pass, and its number is above all that the pass
-- has seen
pub record Entered (before : List Call) (pass : Holder) (step : Step) (answer : Result Out Refusal)
    (number : ℕ) (after : List Call) : Type 0 where
  pub next : number ≡ length before + 1
  pub later : seen_by pass < number
  pub history : after ≡ before ++ call pass.place step answer ∷ []

-- The first of these calls are the next ones of the history, under their pass: as many as there are
-- answers, and one at least. The number is that of the first, and is above all that the pass has
-- seen.
pub record EnteredInRow (before : List Call) (pass : Holder) (steps : List Step)
    (answers : List (Result Out Refusal)) (number : ℕ) (after : List Call) : Type 0 where
  pub some : 0 < length answers
  pub few : length answers ≤ length steps
  pub next : number ≡ length before + 1
  pub later : seen_by pass < number
  pub history : after ≡ before ++ calls_of pass.place steps answers

-- why none is entered, the history being as it was: there are as many calls as there may be; or
-- the pass has seen more than there are
abbrev pub NotEntered : ℕ → List Call → Holder → CallFault → List Call → Type 0
NotEntered steps before pass faults.ShiftFull after = (length before ≡ steps) × (after ≡ before)
NotEntered steps before pass (faults.Behind held) after =
    (length before < steps) × (held ≡ length before) × (held < seen_by pass) × (after ≡ before)
NotEntered steps before pass faults.Memory after = ⊥
NotEntered steps before pass (faults.Node number fault) after = ⊥

-- why no deltas are handed on: the pass has seen more calls than there are; or memory ran out
abbrev pub IsNotTold : List Call → Holder → CallFault → Type 0
IsNotTold history pass faults.ShiftFull = ⊥
IsNotTold history pass (faults.Behind held) = (held ≡ length history) × (held < seen_by pass)
IsNotTold history pass faults.Memory = Unit {0}
IsNotTold history pass (faults.Node number fault) = ⊥
