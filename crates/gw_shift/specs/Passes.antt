-- What a pass holds after a call, and which deltas a shift hands on.
use Rattle.std.specs.Prelude.{◌<◌, ◌+◌, ℕ, zero, suc, List, [], ◌∷◌, ◌++◌, Result}
use Rattle.rep_op.specs.declared.op.Op.{Op}
use Rattle.gw_answer.specs.declared.step.Step.{Step}
use Rattle.gw_answer.specs.declared.out.Out.{Out}
use Rattle.gw_answer.specs.declared.refusal.Refusal.{Refusal}
use Rattle.gw_shift.specs.Calls.{Held, Holder}

-- the numbers of the calls ascend, and the first is above this one
abbrev pub Ascend : ℕ → List Held → Type 0
Ascend least [] = Unit {0}
Ascend least (held ∷ rest) = (least < held.number) × Ascend held.number rest

-- the greatest number that was seen, or this one if there is none
abbrev pub last_of : ℕ → List Held → ℕ
last_of least [] = least
last_of least (held ∷ rest) = last_of held.number rest

-- the number of the last call that the pass holds; 0 if it holds none
abbrev pub seen_by : Holder → ℕ
seen_by pass = last_of 0 pass.calls

-- a call as a pass holds it
abbrev pub held_as : ℕ → Step → Result Out Refusal → Held
held_as number step answer = record { number = number; step = step; answer = answer }

-- calls with their answers as a pass holds them: this is the number of the first, and each other
-- call has the next one
abbrev pub held_from : ℕ → List Step → List (Result Out Refusal) → List Held
held_from number steps [] = []
held_from number [] (answer ∷ answers) = []
held_from number (step ∷ steps) (answer ∷ answers) =
    held_as number step answer ∷ held_from (number + 1) steps answers

-- the pass holds what it held, and this
abbrev pub with_call : Holder → Held → Holder
with_call pass made =
    record { place = pass.place; opening = pass.opening; calls = pass.calls ++ made ∷ [] }

-- the pass holds what it held, and these calls after it
abbrev pub with_calls : Holder → List Held → Holder
with_calls pass more =
    record { place = pass.place; opening = pass.opening; calls = pass.calls ++ more }

-- numbers ascend, and the first is above this one
abbrev pub Climb : ℕ → List (ℕ × List Op) → Type 0
Climb least [] = Unit {0}
Climb least (entry ∷ rest) = (least < entry.0) × Climb entry.0 rest

-- so many passes that hold nothing but the opening
abbrev pub fresh : List (List Op) → ℕ → List Holder
fresh opening zero = []
fresh opening (suc count) =
    fresh opening count ++ record { place = count; opening = opening; calls = [] } ∷ []
