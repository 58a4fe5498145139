-- What a history is that the calls of one node left.
use Rattle.std.specs.Prelude.{◌≡◌, ◌<◌, ◌≤◌, ◌⊎◌, ◌+◌, ◌++◌, ℕ, List, [], ◌∷◌, length, map, Result}
use Rattle.rep_op.specs.declared.op.Op.{Op}
use Rattle.rep_model.specs.Held.{IsHeld}
use Rattle.jr_disk.specs.declared.disk.Disk.{Ghosts}
use Rattle.jr_journal.specs.Parts.{disk_under}
use Rattle.gw_answer.specs.declared.out.Out.{Out}
use Rattle.gw_answer.specs.declared.refusal.Refusal.{Refusal}
use Rattle.gw_answer.specs.declared.step.Step.{Step}
use Rattle.gw_node.specs.Parts.{State}
use Rattle.gw_node.specs.Calls.{StepCall}
use Rattle.gw_node.specs.Standing.{EventOn, EventsOn}
use Rattle.gw_node.specs.Failures.{failed}
use Rattle.gw_shift.specs.Calls.{Call}

-- The node answers a call so, and is this after it; for a gateway that it stood for the call was an
-- event.
pub record Does {D : Type 0} {G : Ghosts D} (old : State G) (call : Call)
    (new : State G) : Type 0 where
  pub called : StepCall old call.step call.answer new
  pub event : EventOn old call.step call.answer new

-- how many calls were answered with a failure of the disk
abbrev pub failed_in : List Call → ℕ
failed_in [] = 0
failed_in (call ∷ calls) = failed call.answer + failed_in calls

-- what was called, without the answers
abbrev pub steps_in : List Call → List Step
steps_in calls = map (λ (call : Call). call.step) calls

-- what was answered
abbrev pub answers_in : List Call → List (Result Out Refusal)
answers_in calls = map (λ (call : Call). call.answer) calls

-- The node answers these calls so, one at least, and is this after them. What they make and take is
-- written at once; for a gateway that it stood for they were events with one write. The disk failed
-- at least as often as a call was answered so.
pub record DoTogether {D : Type 0} {G : Ghosts D} (old : State G) (calls : List Call)
    (new : State G) : Type 0 where
  pub some : 0 < length calls
  pub events : EventsOn old (steps_in calls) (answers_in calls) new
  pub failures : G.failures (disk_under old.journal) + failed_in calls
      ≤ G.failures (disk_under new.journal)

-- a part of a history: a call by itself, or calls with one write
abbrev pub DoesPart : {D : Type 0} {G : Ghosts D} → State G → List Call → State G → Type 0
DoesPart old calls new =
    ((call : Call) × (calls ≡ call ∷ []) × Does old call new) ⊎ DoTogether old calls new

-- the parts, one after the other, lead from one state to the other
abbrev pub Leads : {D : Type 0} {G : Ghosts D} → State G → List (List Call) → State G → Type 0
Leads old [] new = old ≡ new
Leads {G = G} old (part ∷ parts) new = (between : State G) × DoesPart old part between
    × Leads between parts new

-- the calls of all parts, in their order
abbrev pub calls_in : List (List Call) → List Call
calls_in [] = []
calls_in (part ∷ parts) = part ++ calls_in parts

-- A legal history. From some node that held the opening, its calls lead to this state, each
-- answered as the node answers there. Some are calls by themselves, others were written at once; so
-- it has parts, and each call is in one. The disk failed at least as often as a call was answered
-- so.
pub record IsLegal {D : Type 0} {G : Ghosts D} (opening : List (List Op)) (history : List Call)
    (state : State G) : Type 0 where
  pub first : State G
  pub opened : IsHeld first.kept opening
  pub parts : List (List Call)
  pub whole : calls_in parts ≡ history
  pub leads : Leads first parts state
  pub failures : G.failures (disk_under first.journal) + failed_in history
      ≤ G.failures (disk_under state.journal)
