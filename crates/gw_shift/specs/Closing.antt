-- When the passes that are given back hold just the calls of a history.
use Rattle.std.specs.Prelude.{◌≡◌, ◌≢◌, ◌<◌, ◌≤◌, ◌+◌, ◌-◌, ◌==◌, ◌⊎◌, ◌||◌, ℕ, Bool, true, false, if◌then◌else◌, List, [], ◌∷◌, length, Some, slice_get}
use Rattle.rep_op.specs.declared.op.Op.{Op}
use Rattle.gw_shift.specs.Calls.{Call, Held, Holder}
use Rattle.gw_shift.specs.Passes.{Ascend}
use Rattle.gw_shift.specs.declared.fault.CloseFault.{CloseFault}
use Rattle.gw_shift.specs.declared.fault.CloseFault.TheVariants as faults

-- the history has the call at its number, under this pass
abbrev pub StandsIn : List Call → ℕ → Held → Type 0
StandsIn history place held =
    (0 < held.number) × (slice_get history (held.number - 1)
    ≡ Some (record { place = place; step = held.step; answer = held.answer }))

-- whether one of the calls has this number
abbrev pub has_number : ℕ → List Held → Bool
has_number number [] = false
has_number number (held ∷ rest) = (held.number == number) || has_number number rest

-- one of the passes holds a call of this number
abbrev pub is_held : ℕ → List Holder → Bool
is_held number [] = false
is_held number (pass ∷ rest) = has_number number pass.calls || is_held number rest

-- the calls are in the history under that pass, and no other pass holds one of them
abbrev pub AreOwn : List Call → ℕ → List Holder → List Held → Type 0
AreOwn history place others [] = Unit {0}
AreOwn history place others (held ∷ rest) =
    StandsIn history place held × (is_held held.number others ≡ false)
    × AreOwn history place others rest

-- each pass holds calls of the history, in its order, and no call is held by two passes
abbrev pub AreKnown : List Call → List Holder → Type 0
AreKnown history [] = Unit {0}
AreKnown history (pass ∷ rest) =
    Ascend 0 pass.calls × AreOwn history pass.place rest pass.calls × AreKnown history rest

-- This is the number of the first of the calls that the history has not so, or that another of the
-- passes holds.
abbrev pub IsStrangeIn : List Call → ℕ → List Holder → List Held → ℕ → Type 0
IsStrangeIn history place others [] number = ⊥
IsStrangeIn history place others (held ∷ rest) number =
    ((number ≡ held.number) × (StandsIn history place held → is_held held.number others ≡ true))
    ⊎ (StandsIn history place held × (is_held held.number others ≡ false)
    × IsStrangeIn history place others rest number)

-- this is the number of the first call, pass by pass, that the history has not so, or that another
-- pass holds too
abbrev pub IsStrange : List Call → List Holder → ℕ → Type 0
IsStrange history [] number = ⊥
IsStrange history (pass ∷ rest) number =
    IsStrangeIn history pass.place rest pass.calls number
    ⊎ (AreOwn history pass.place rest pass.calls × IsStrange history rest number)

-- the passes were made when a shift was opened with this
abbrev pub HaveOpening : List (List Op) → List Holder → Type 0
HaveOpening opening [] = Unit {0}
HaveOpening opening (pass ∷ rest) = (pass.opening ≡ opening) × HaveOpening opening rest

-- how many calls the passes hold together
abbrev pub taken_by : List Holder → ℕ
taken_by [] = 0
taken_by (pass ∷ rest) = length pass.calls + taken_by rest

-- how often a call of this number is held
abbrev pub times : ℕ → List Held → ℕ
times number [] = 0
times number (held ∷ rest) = (if held.number == number then 1 else 0) + times number rest

-- how often the passes hold a call of this number
abbrev pub times_held : ℕ → List Holder → ℕ
times_held number [] = 0
times_held number (pass ∷ rest) = times number pass.calls + times_held number rest

-- The passes hold the calls of the history. Each pass holds the opening. Its calls are in the
-- history at their numbers, under it, in its order. They are as many as the history has, and each
-- call of the history is held once.
pub record Accounts (opening : List (List Op)) (history : List Call)
    (passes : List Holder) : Type 0 where
  pub openings : HaveOpening opening passes
  pub known : AreKnown history passes
  pub whole : taken_by passes ≡ length history
  pub once : (number : ℕ) → 1 ≤ number → number ≤ length history → times_held number passes ≡ 1

-- a pass that made no call
abbrev pub unused : ℕ → List (List Op) → Holder
unused place opening = record { place = place; opening = opening; calls = [] }

-- why a shift is not closed
abbrev pub IsCloseFault : List (List Op) → List Call → List Holder → CloseFault → Type 0
IsCloseFault opening history passes (faults.Stranger number) =
    ((number ≡ 0) × (HaveOpening opening passes → ⊥))
    ⊎ (HaveOpening opening passes × IsStrange history passes number)
IsCloseFault opening history passes (faults.Missing steps held) =
    HaveOpening opening passes × AreKnown history passes × (steps ≡ length history)
    × (held ≡ taken_by passes) × (held ≢ steps)
