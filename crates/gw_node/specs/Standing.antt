-- Nodes, and the gateways that they stand for.
use Rattle.std.specs.Prelude.{◌≡◌, ℕ, false, IsTrue, List, [], ◌∷◌, Option, Some, None, Result, Ok, Err}
use Rattle.rep_op.specs.declared.op.Op.{Op}
use Rattle.rep_ops.specs.Making.{IsDeltaOf}
use Rattle.rep_model.specs.Taking.{AllAgree}
use Rattle.sn_plan.specs.declared.plan.Plan.{Plan}
use Rattle.jr_disk.specs.declared.disk.Disk.{Ghosts}
use Rattle.jr_disk.specs.declared.disk.Failure.{Failure}
use Rattle.jr_disk.specs.Disk.{Slots, EachCrash}
use Rattle.jr_journal.specs.Faults.{is_fresh}
use Rattle.jr_journal.specs.Arranged.{misses_failure}
use Rattle.jr_journal.specs.Parts.{disk_under, gateway_of, slot_of}
use Rattle.gw_answer.specs.declared.out.Out.{Out}
use Rattle.gw_answer.specs.declared.refusal.Refusal.{Refusal}
use Rattle.gw_answer.specs.declared.step.Step.{Step}
use Rattle.gw_answer.specs.declared.step.Step.TheVariants as steps
use Rattle.gw_event.specs.Drives.{more_records}
use Rattle.gw_event.specs.Gateways.{Gateway, with_refused}
use Rattle.gw_event.specs.Event.{Event, IsPlan}
use Rattle.gw_event.specs.Together.{Together}
use Rattle.gw_node.specs.Failures.{failed}
use Rattle.gw_node.specs.Keeping.{Keeps}
use Rattle.gw_event.specs.Occasions.{Occasion, Datagram, Clock}
use Rattle.gw_node.specs.Parts.{State, is_halted}
use Rattle.gw_node.specs.Taking.{RecoversTo}

-- ---- what a crash leaves of a gateway

-- all bytes of both slots are synced, so that no crash loses one
pub record IsSynced (slots : Slots) : Type 0 where
  pub first : slots.first.unsynced ≡ []
  pub second : slots.second.unsynced ≡ []

-- As long as the gateway goes on, all of its disk is synced, and nothing was refused. Every crash
-- leaves a journal that stands for the set; with more records than are synced, for the set with so
-- many first ones of what was refused. No opening of it begins a new journal.
pub record Lasts (gateway : Gateway) : Type 0 where
  pub synced : gateway.drive.halted ≡ false → IsSynced gateway.drive.slots
  pub none : gateway.drive.halted ≡ false → gateway.refused ≡ []
  pub images : EachCrash (λ i. RecoversTo gateway.config.gateway
      (with_refused (more_records gateway.config.gateway gateway.drive i) gateway.taken
      gateway.refused) [] i) gateway.drive.slots
  pub begun : EachCrash (λ i. is_fresh i ≡ false) gateway.drive.slots

-- ---- a node

-- The node stands for the gateway. Both have the same settings and the same local state. The node's
-- replica keeps what it should of the set. Its journal is in the same slot, and halted or not as
-- the gateway's. An honest disk has these bytes.
pub record Represents {D : Type 0} {G : Ghosts D} (gateway : Gateway)
    (state : State G) : Type 0 where
  pub configured : state.config ≡ gateway.config
  pub numbered : gateway_of state.journal ≡ gateway.config.gateway
  pub bound : state.local ≡ gateway.local
  pub keeps : Keeps gateway.taken state.kept
  pub slot : slot_of state.journal ≡ gateway.drive.slot
  pub halted : is_halted state ≡ gateway.drive.halted
  pub slots : G.honest → G.slots (disk_under state.journal) ≡ gateway.drive.slots

-- it is known of the disk which failure is arranged: that of the gateway, and nothing but an append
-- meets it
pub record IsForeseen {D : Type 0} {G : Ghosts D} (gateway : Gateway)
    (state : State G) : Type 0 where
  pub plan : G.outlook (disk_under state.journal) ≡ Some gateway.drive.plan
  pub quiet : IsTrue (misses_failure (Some gateway.drive.plan) false)

-- ---- what a call leads to

-- the gateway as if this failure, or none, was arranged
abbrev pub with_failure : Option Failure → Gateway → Gateway
with_failure fate gateway = record gateway { drive = record gateway.drive { plan = fate } }

-- The node stood for the gateway, and stands for the next one. What happened leads to that one as
-- if the failure that came, or none, had been arranged. On an honest disk to which no memory was
-- refused it is the one that was known, if one was, and it is known again. What the gateway has
-- taken lasts there, if it did before, and if what the call took contradicts nothing of it.
pub record LeadsTo {D : Type 0} {G : Ghosts D} (Happens : Gateway → Gateway → List (List Op)
    → Type 0) (Agrees : Type 0) (gateway : Gateway) (old new : State G) : Type 0 where
  pub fate : Option Failure
  pub next : Gateway
  pub made : List (List Op)
  pub happens : Happens (with_failure fate gateway) next made
  pub stands : Represents next new
  pub foreseen : G.honest → G.starved (disk_under new.journal) ≡ false → IsForeseen gateway old
      → (fate ≡ gateway.drive.plan) × IsForeseen next new
  pub lasts : Agrees → G.honest → Lasts gateway → Lasts next

-- whatever delta a datagram or a tick makes contradicts nothing that the gateway has taken
abbrev pub OwnAgrees : Gateway → Occasion → ℕ → Type 0
OwnAgrees gateway occasion now =
    (plan : Plan) (delta : List Op) → IsPlan gateway occasion now (Some plan)
    → IsDeltaOf plan.ops delta → AllAgree gateway.taken delta

-- what a call takes contradicts nothing that the gateway has taken: a delta, or what a datagram or
-- a tick makes
abbrev pub CallAgrees : Gateway → Step → Type 0
CallAgrees gateway (steps.Frame from bytes now) = OwnAgrees gateway (Datagram from bytes) now
CallAgrees gateway (steps.Take delta) = AllAgree gateway.taken delta
CallAgrees gateway (steps.Tick now) = OwnAgrees gateway Clock now
CallAgrees gateway step = Unit {0}

-- Of a compaction it can be said on an honest disk. If it failed, it must be known which failure
-- was arranged, for a disk may fail to cut as well. Nor may memory have been refused then.
pub record IsClear {D : Type 0} {G : Ghosts D} (gateway : Gateway) (old : State G)
    (answer : Result Out Refusal) (new : State G) : Type 0 where
  pub honest : G.honest
  pub cause : failed answer ≡ 1
      → (G.starved (disk_under new.journal) ≡ false) × IsForeseen gateway old

-- Of a reopening it can be said on an honest disk, if it went well and what was taken lasts.
abbrev pub WentWell : Type 0 → Gateway → Result Out Refusal → Type 0
WentWell Honest gateway (Ok out) = Honest × Lasts gateway
WentWell Honest gateway (Err refusal) = ⊥

-- What must be known of the disk so that the call can be said to be an event of the gateway. For a
-- compaction that is `IsClear`, for a reopening `WentWell`, for every other call nothing.
abbrev pub CanBeSaid : {D : Type 0} {G : Ghosts D} → Gateway → State G → Step → Result Out Refusal
    → State G → Type 0
CanBeSaid gateway old steps.Compact answer new = IsClear gateway old answer new
CanBeSaid {G = G} gateway old steps.Reopen answer new = WentWell G.honest gateway answer
CanBeSaid gateway old step answer new = Unit {0}

-- Whatever gateway the node stood for, the call is its event, and the node stands for the next one.
abbrev pub EventOn : {D : Type 0} {G : Ghosts D} → State G → Step → Result Out Refusal → State G
    → Type 0
EventOn old step answer new =
    (gateway : Gateway) → Represents gateway old → CanBeSaid gateway old step answer new
    → LeadsTo (λ before next made. Event before step answer next made) (CallAgrees gateway step)
    gateway old new

-- ---- several calls with one write

-- what each of several calls takes contradicts nothing that the gateway has taken by then, wherever
-- the calls before it lead
abbrev pub AgreeInTurn : Gateway → List Step → Type 0
AgreeInTurn gateway [] = Unit {0}
AgreeInTurn gateway (step ∷ rest) =
    CallAgrees gateway step
    × ((answer : Result Out Refusal) (next : Gateway) (made : List (List Op))
    → Event gateway step answer next made → AgreeInTurn next rest)

-- what must be known of the disk so that the calls can be said to be events of the gateway:
-- nothing, unless there is one call alone
abbrev pub CanAllBeSaid : {D : Type 0} {G : Ghosts D} → Gateway → State G → List Step
    → List (Result Out Refusal) → State G → Type 0
CanAllBeSaid gateway old (step ∷ []) (answer ∷ answers) new = CanBeSaid gateway old step answer new
CanAllBeSaid gateway old calls answers new = Unit {0}

-- Whatever gateway the node stood for, the calls are its events with one write, and the node stands
-- for the next one. What was taken lasts if it did before, and if what the calls take, written one
-- by one, contradicts nothing.
abbrev pub EventsOn : {D : Type 0} {G : Ghosts D} → State G → List Step
    → List (Result Out Refusal) → State G → Type 0
EventsOn old calls answers new =
    (gateway : Gateway) → Represents gateway old → CanAllBeSaid gateway old calls answers new
    → LeadsTo (λ before next made. Together before calls answers next made)
    (AgreeInTurn (with_failure None gateway) calls) gateway old new
