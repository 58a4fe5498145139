-- Datagrams that a worker took at once, and what becomes of them.
use Rattle.std.specs.Prelude.{◌≡◌, ◌≤◌, ◌<◌, ◌+◌, ◌++◌, ℕ, zero, suc, true, List, [], ◌∷◌, All, length, map, take, vec_capacity}
use Rattle.std.specs.Arc.{arc_value}
use Rattle.gw_answer.specs.declared.step.Step.{Step}
use Rattle.gw_shift.specs.Calls.{Holder}
use Rattle.gw_shift.specs.Passes.{seen_by}
use Rattle.gw_serve.specs.declared.queue.Hand.{Hand}
use Rattle.gw_serve.specs.declared.queue.TheConstants.{CAPACITY}
use Rattle.gw_serve.specs.declared.row.Called.{Called}
use Rattle.gw_serve.specs.declared.row.End.{End}
use Rattle.gw_serve.specs.declared.row.End.TheVariants.{Done, Full, Failed}
use Rattle.gw_serve.specs.declared.row.Row.{Row}
use Rattle.gw_serve.specs.declared.worker.Trouble.TheVariants as troubles
use Rattle.gw_serve.specs.inner.Queue.{hand}
use Rattle.gw_serve.specs.Serving.{is_frame, Gains}

-- so many numbers that follow each other, of which this is the first
abbrev pub row_numbers_from : ℕ → ℕ → List ℕ
row_numbers_from first zero = []
row_numbers_from first (suc count) = first ∷ row_numbers_from (first + 1) count

-- nothing was taken, and there is room for as many datagrams as the queue holds
pub record IsEmptyRow (row : Row) : Type 0 where
  pub none : (row.numbers.items ≡ []) × (row.steps.items ≡ []) × (row.called.items ≡ [])
  pub numbers : CAPACITY ≤ vec_capacity row.numbers
  pub steps : CAPACITY ≤ vec_capacity row.steps
  pub called : CAPACITY ≤ vec_capacity row.called

-- a row that was taken: each number has a step, which is a datagram's, and none is called yet
pub record IsTakenRow (row : Row) : Type 0 where
  pub few : length row.numbers.items ≤ CAPACITY
  pub steps : length row.steps.items ≡ length row.numbers.items
  pub frames : All (λ (step : Step). is_frame step ≡ true) (map arc_value row.steps.items)
  pub called : (row.called.items ≡ []) × (CAPACITY ≤ vec_capacity row.called)

-- these numbers were taken with the ticket
abbrev pub TakesNumbers : Hand → List ℕ → Hand → Type 0
TakesNumbers before numbers after = after ≡ hand before.parts before.sent (before.taken ++ numbers)

-- The first datagrams of a row became these calls, in the row's order, and the pass gained them.
pub record AreCalled (before : Holder) (numbers : List ℕ) (called : List Called)
    (after : Holder) : Type 0 where
  pub few : length called ≤ length numbers
  pub datagrams : map (λ (c : Called). c.taken.datagram) called ≡ take (length called) numbers
  pub gains : Gains before (map (λ (c : Called). c.taken.step) called) after

-- Why a row of so many datagrams has no more calls than these. A pass that is said to be behind has
-- seen a number.
abbrev pub IsEnd : ℕ → ℕ → End → Holder → Type 0
IsEnd count made Done after = made ≡ count
IsEnd count made Full after = Unit {0}
IsEnd count made (Failed trouble) after = trouble ≡ troubles.Behind → 0 < seen_by after
