-- What a pass holds after a call, and which deltas a shift hands on.
use Rattle.std.specs.Prelude.{◌+◌, ℕ, List, [], ◌∷◌, Option, Some, None, Result, Ok, Err}
use Rattle.std.specs.Arc.{arc_value}
use Rattle.std.specs.declared.sync.Arc.{Arc}
use Rattle.std.specs.declared.alloc.Global.{Global}
use Rattle.rep_op.specs.declared.op.Op.{Op}
use Rattle.gw_answer.specs.declared.step.Step.{Step}
use Rattle.gw_answer.specs.declared.out.Out.{Out}
use Rattle.gw_answer.specs.declared.refusal.Refusal.{Refusal}
use Rattle.gw_shift.specs.Calls.{Call}

-- the delta that a call made, if it made one
abbrev pub delta_made : Result Out Refusal → Option (List Op)
delta_made (Ok out) = out.made
delta_made (Err refusal) = None

-- the delta under its number, in front of the others; without one they stay as they are
abbrev pub delta_noted : ℕ → Option (List Op) → List (ℕ × List Op) → List (ℕ × List Op)
delta_noted number None rest = rest
delta_noted number (Some delta) rest = (number, delta) ∷ rest

-- the deltas that the calls made, with their numbers, which begin after this one
abbrev pub made_after : ℕ → List Call → List (ℕ × List Op)
made_after before [] = []
made_after before (call ∷ calls) =
    delta_noted (before + 1) (delta_made call.answer) (made_after (before + 1) calls)

-- a call as a history holds it
abbrev pub call : ℕ → Step → Result Out Refusal → Call
call place step answer = record { place = place; step = step; answer = answer }

-- calls with their answers as a history holds them, as many as there are answers
abbrev pub calls_of : ℕ → List Step → List (Result Out Refusal) → List Call
calls_of place steps [] = []
calls_of place [] (answer ∷ answers) = []
calls_of place (step ∷ steps) (answer ∷ answers) =
    call place step answer ∷ calls_of place steps answers

-- the deltas that shares of answers hold, with their numbers
abbrev pub told_by : List (ℕ × Arc Out Global) → List (ℕ × List Op)
told_by [] = []
told_by (share ∷ rest) = delta_noted share.0 (arc_value share.1).made (told_by rest)
