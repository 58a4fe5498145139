-- Calls one after the other, of which what they make and take is written at once.
use Rattle.std.specs.Prelude.{◌≡◌, ◌≢◌, ◌⊎◌, ◌≤◌, ◌<◌, ◌++◌, ◌∷◌, ℕ, Bool, true, false, List, [], Option, Some, None, map, take, Result, Ok, Err}
use Rattle.rep_op.specs.declared.op.Op.{Op}
use Rattle.sn_local.specs.Locals.{Local}
use Rattle.sn_plan.specs.declared.plan.Plan.{Plan}
use Rattle.jr_disk.specs.declared.disk.Disk.{Ghosts}
use Rattle.jr_disk.specs.Disk.{image}
use Rattle.jr_journal.specs.declared.fault.JournalFault.{JournalFault}
use Rattle.jr_journal.specs.declared.fault.JournalFault.TheVariants as faults
use Rattle.jr_journal.specs.declared.journal.Journal.{Journal}
use Rattle.jr_journal.specs.Records.{written_all, records}
use Rattle.jr_journal.specs.Crashes.{Leaves, LeavesSome}
use Rattle.jr_journal.specs.Arranged.{after_append, IsStruck, AppendedAs}
use Rattle.jr_journal.specs.Parts.{disk_under, gateway_of, slot_of, generation_of, is_stopped}
use Rattle.gw_answer.specs.Answers.{only_sends}
use Rattle.gw_answer.specs.declared.out.Out.{Out}
use Rattle.gw_answer.specs.declared.refusal.Refusal.{Refusal}
use Rattle.gw_answer.specs.declared.refusal.Refusal.TheVariants as refusals
use Rattle.gw_answer.specs.declared.step.Step.{Step}
use Rattle.gw_answer.specs.declared.step.Step.TheVariants as steps
use Rattle.gw_event.specs.Occasions.{Datagram, Clock}
use Rattle.gw_event.specs.Together.{put_by, put_by_all}
use Rattle.gw_node.specs.Parts.{State, is_halted, IsUnchanged}
use Rattle.gw_node.specs.Calls.{StepCall}
use Rattle.gw_node.specs.inner.Ahead.{IsDoneAhead, IsTakenAhead, StepAhead, CarriedAhead, WritesPlan, made_in}

-- ---- the journal

-- The deltas are the last records: synced, so that every crash leaves them.
pub record AreWritten {D : Type 0} {G : Ghosts D} (old : Journal D G) (deltas : List (List Op))
    (new : Journal D G) : Type 0 where
  pub gateway : gateway_of new ≡ gateway_of old
  pub slot : slot_of new ≡ slot_of old
  pub generation : generation_of new ≡ generation_of old
  pub goes_on : is_stopped new ≡ false
  pub failures : G.failures (disk_under old) ≤ G.failures (disk_under new)
  pub exact : G.honest → G.slots (disk_under new) ≡ after_append None (G.slots (disk_under old))
      (slot_of old) (written_all deltas)
  pub durable : G.honest → Leaves (gateway_of old) (G.slots (disk_under new))
      (records (gateway_of old) (image (G.slots (disk_under old))) ++ deltas)
  -- if it is known which failure is arranged, there was none
  pub known : G.honest → G.starved (disk_under new) ≡ false
      → AppendedAs (G.outlook (disk_under old)) (G.slots (disk_under old)) (slot_of old)
      (written_all deltas) (Ok (record {})) (G.slots (disk_under new)) (G.outlook (disk_under new))

-- The disk failed: the journal is halted, and a crash leaves some first ones of the deltas as
-- records, each whole.
pub record AreFailed {D : Type 0} {G : Ghosts D} (old : Journal D G) (deltas : List (List Op))
    (new : Journal D G) : Type 0 where
  pub gateway : gateway_of new ≡ gateway_of old
  pub slot : slot_of new ≡ slot_of old
  pub generation : generation_of new ≡ generation_of old
  pub halts : is_stopped new ≡ true
  pub cause : G.failures (disk_under old) < G.failures (disk_under new)
  -- it is as one of the failures leaves it
  pub struck : IsStruck G.honest (G.slots (disk_under old)) (slot_of old) (written_all deltas)
      (G.slots (disk_under new))
  pub torn : G.honest → LeavesSome (gateway_of old) (G.slots (disk_under new))
      (records (gateway_of old) (image (G.slots (disk_under old)))) deltas
  -- if it is known which failure is arranged, it is this one
  pub known : G.honest → G.starved (disk_under new) ≡ false
      → AppendedAs (G.outlook (disk_under old)) (G.slots (disk_under old)) (slot_of old)
      (written_all deltas) (Err faults.Disk) (G.slots (disk_under new)) (G.outlook (disk_under new))

-- what became of the journal, by the answer of the write; it runs, and so is never halted
abbrev pub WrittenAllAs : {D : Type 0} {G : Ghosts D} → Journal D G → List (List Op)
    → Result (Unit {0}) JournalFault → Journal D G → Type 0
WrittenAllAs old deltas (Ok done) new = AreWritten old deltas new
WrittenAllAs old deltas (Err faults.Disk) new = AreFailed old deltas new
WrittenAllAs old deltas result new = ⊥

-- ---- calls one after the other

-- the calls were carried out, but for the write; none of them ran out of memory
abbrev pub TurnAhead : {D : Type 0} {G : Ghosts D} → State G → List Step
    → List (Result Out Refusal) → State G → Type 0
TurnAhead old [] [] new = new ≡ old
TurnAhead {G = G} old (step ∷ rest) (answer ∷ answers) new =
    (mid : State G) × StepAhead old step answer mid × (answer ≢ Err refusals.Memory)
    × TurnAhead mid rest answers new
TurnAhead old [] (answer ∷ answers) new = ⊥
TurnAhead old (step ∷ rest) [] new = ⊥

-- the answer to a call of a row, or nothing, if memory ran out
abbrev pub IsFor : Result Out Refusal → Option (Result Out Refusal) → Type 0
IsFor reply None = reply ≡ Err refusals.Memory
IsFor reply (Some given) = (given ≡ reply) × (reply ≢ Err refusals.Memory)

-- what a plan with operations came to, or nothing, if its call is for another row
abbrev pub CarriedAlong : {D : Type 0} {G : Ghosts D} → State G → Plan
    → Option (Result Out Refusal) → State G → Type 0
CarriedAlong old plan None new = IsUnchanged old new
CarriedAlong old plan (Some reply) new =
    CarriedAhead old plan reply new × (reply ≢ Err refusals.Memory)

-- the delta that was made, if one was
abbrev pub made_if : Option (Result Out Refusal) → List (List Op)
made_if None = []
made_if (Some reply) = made_in reply

-- what a call behind the first came to, or nothing, if it is for another row
abbrev pub WentAhead : {D : Type 0} {G : Ghosts D} → State G → Step
    → Option (Result Out Refusal) → State G → Type 0
WentAhead old step None new = IsUnchanged old new
WentAhead old step (Some reply) new =
    StepAhead old step reply new × (reply ≢ Err refusals.Memory)

-- what such a call is to put into the journal
abbrev pub put_if : Step → Option (Result Out Refusal) → List (List Op)
put_if step None = []
put_if step (Some reply) = put_by step reply

-- One call more was carried out, and its answer and its delta are behind those that were there; or
-- nothing is done.
abbrev pub OneMore : {D : Type 0} {G : Ghosts D} → State G → Step → List (Result Out Refusal)
    → List (List Op) → Bool → List (Result Out Refusal) → List (List Op) → State G → Type 0
OneMore old step said puts true answers all new =
    (reply : Result Out Refusal) × StepAhead old step reply new
    × (reply ≢ Err refusals.Memory) × (answers ≡ said ++ reply ∷ [])
    × (all ≡ puts ++ put_by step reply)
OneMore old step said puts false answers all new =
    IsUnchanged old new × (answers ≡ said) × (all ≡ puts)

-- Some first ones of these calls were carried out. Their answers are behind those that were there,
-- and what they put into the journal is behind what was.
pub record WentOn {D : Type 0} {G : Ghosts D} (old : State G) (calls : List Step)
    (said : List (Result Out Refusal)) (puts : List (List Op)) (answers : List (Result Out Refusal))
    (all : List (List Op)) (new : State G) : Type 0 where
  pub count : ℕ
  pub replies : List (Result Out Refusal)
  pub after : State G
  pub turn : TurnAhead old (take count calls) replies after
  pub same : IsUnchanged after new
  pub answers_are : answers ≡ said ++ replies
  pub puts_are : all ≡ puts ++ put_by_all (take count calls) replies

-- ---- a row

-- The first call of a row was carried out, but for the write. It has something to write, and the
-- excuse is answered if that fails.
abbrev pub BeginsRow : {D : Type 0} {G : Ghosts D} → State G → Step → Out → Out → State G → Type 0
BeginsRow old (steps.Frame from bytes now) out excuse new =
    (plan : Plan) × WritesPlan old (Datagram from bytes) now plan excuse
    × IsDoneAhead old plan out new
BeginsRow old (steps.Tick now) out excuse new =
    (plan : Plan) × WritesPlan old Clock now plan excuse × IsDoneAhead old plan out new
BeginsRow old (steps.Take delta) out excuse new =
    (delta ≢ []) × (out ≡ only_sends []) × (excuse ≡ only_sends []) × IsTakenAhead old delta new
BeginsRow old step out excuse new = ⊥

-- the answers if the disk failed: the excuse to the first, and to those behind that the gateway is
-- halted
abbrev pub excused : Out → List (Result Out Refusal) → List (Result Out Refusal)
excused excuse [] = []
excused excuse (answer ∷ answers) =
    Err (refusals.Disk excuse) ∷ map (λ (a : Result Out Refusal). Err refusals.Halted) answers

-- What the write of a row came to: all is in the journal; or the disk failed, and the node keeps
-- and knows what it did before the row.
pub record EndedAs {D : Type 0} {G : Ghosts D} (ahead : State G) (kept : List Op) (local : Local)
    (deltas : List (List Op)) (excuse : Out) (said answers : List (Result Out Refusal))
    (new : State G) : Type 0 where
  pub config : new.config ≡ ahead.config
  pub records : new.records ≡ ahead.records
  pub written : ((answers ≡ said) × (new.kept ≡ ahead.kept) × (new.local ≡ ahead.local)
      × AreWritten ahead.journal deltas new.journal)
      ⊎ ((answers ≡ excused excuse said) × (new.kept ≡ kept) × (new.local ≡ local)
      × AreFailed ahead.journal deltas new.journal)

-- The rest of a row, whose first call was carried out with this answer. `kept` and `local` are what
-- was kept and known before the row.
pub record IsFinished {D : Type 0} {G : Ghosts D} (mid : State G) (kept : List Op) (local : Local)
    (puts : List (List Op)) (excuse out : Out) (rest : List Step)
    (answers : List (Result Out Refusal)) (new : State G) : Type 0 where
  pub count : ℕ
  pub said : List (Result Out Refusal)
  pub after : State G
  pub turn : TurnAhead mid (take count rest) said after
  pub ahead : State G
  pub same : IsUnchanged after ahead
  pub ended : EndedAs ahead kept local (puts ++ put_by_all (take count rest) said) excuse
      (Ok out ∷ said) answers new

-- several calls with one write
pub record IsRow {D : Type 0} {G : Ghosts D} (old : State G) (first : Step) (rest : List Step)
    (answers : List (Result Out Refusal)) (new : State G) : Type 0 where
  pub runs : is_halted old ≡ false
  pub out : Out
  pub excuse : Out
  pub mid : State G
  pub begun : BeginsRow old first out excuse mid
  pub finished : IsFinished mid old.kept old.local (put_by first (Ok out)) excuse out rest answers
      new

-- one call by itself
pub record IsAlone {D : Type 0} {G : Ghosts D} (old : State G) (first : Step)
    (answers : List (Result Out Refusal)) (new : State G) : Type 0 where
  pub answer : Result Out Refusal
  pub answers_are : answers ≡ answer ∷ []
  pub call : StepCall old first answer new

-- the first of these calls by itself, or a row that it begins
abbrev pub RowCall : {D : Type 0} {G : Ghosts D} → State G → Step → List Step
    → List (Result Out Refusal) → State G → Type 0
RowCall old first rest answers new =
    IsAlone old first answers new ⊎ IsRow old first rest answers new
