-- Opening a node: it takes what its journal holds.
use Rattle.std.specs.Prelude.{◌≡◌, ◌≢◌, ◌⊎◌, ◌≤◌, ◌<◌, ℕ, true, false, IsTrue, List, [], ◌∷◌, ◌++◌, length, Some, None, take, slice_get, Result, Ok, Err}
use Rattle.rep_op.specs.declared.op.Op.{Op}
use Rattle.rep_ops.specs.Splitting.{all_of}
use Rattle.rep_model.specs.Taking.{Fits}
use Rattle.sn_local.specs.declared.config.Config.{Config}
use Rattle.sn_local.specs.Locals.{no_local}
use Rattle.jr_disk.specs.declared.disk.Disk.{Ghosts}
use Rattle.jr_disk.specs.Disk.{Slots, Image, image}
use Rattle.jr_journal.specs.declared.fault.JournalFault.TheVariants as journal_faults
use Rattle.jr_journal.specs.Records.{records}
use Rattle.jr_journal.specs.Faults.{is_fresh, fault_of}
use Rattle.jr_journal.specs.Crashes.{Leaves, recovered, LeavesNoMore}
use Rattle.jr_journal.specs.Arranged.{misses_failure}
use Rattle.jr_journal.specs.Opening.{synced_slots, slot_read, generation_read}
use Rattle.jr_journal.specs.Parts.{disk_under, gateway_of, slot_of, generation_of}
use Rattle.gw_answer.specs.declared.out.Out.{Out}
use Rattle.gw_answer.specs.declared.refusal.Refusal.{Refusal}
use Rattle.gw_answer.specs.declared.refusal.Refusal.TheVariants as refusals
use Rattle.gw_node.specs.Parts.{State, is_halted}
use Rattle.gw_answer.specs.Answers.{only_sends}
use Rattle.gw_node.specs.Plans.{IsMisfit}
use Rattle.gw_node.specs.Keeping.{Keeps}
use Rattle.gw_node.specs.Taking.{on_disk}

-- a node that was just opened: it is not halted, and knows nothing but what its replica keeps
pub record IsStarted {D : Type 0} {G : Ghosts D} (config : Config) (state : State G) : Type 0 where
  pub configured : state.config ≡ config
  pub local : state.local ≡ no_local
  pub runs : is_halted state ≡ false
  pub gateway : gateway_of state.journal ≡ config.gateway

-- each of the deltas fits to what is kept of the set with those before it
abbrev pub FitInTurn : List Op → List (List Op) → Type 0
FitInTurn S [] = Unit {0}
FitInTurn S (delta ∷ deltas) =
    ((kept : List Op) × Keeps S kept × Fits kept delta) × FitInTurn (S ++ delta) deltas

-- one of the deltas does not fit to what is kept of those before it
pub record HasMisfit (deltas : List (List Op)) (refusal : Refusal) : Type 0 where
  pub before : ℕ
  pub delta : List Op
  pub delta_is : slice_get deltas before ≡ Some delta
  pub kept : List Op
  pub keeps : Keeps (all_of (take before deltas)) kept
  pub misfit : IsMisfit kept delta refusal

-- Why an image is not opened: the journal's fault; or a record that does not fit to those before
-- it. That the disk failed, or that memory ran out, says nothing of the image.
abbrev pub IsOpenFault : ℕ → Image → Refusal → Type 0
IsOpenFault gateway i (refusals.Journal fault) = fault_of gateway i ≡ Some fault
IsOpenFault gateway i (refusals.Conflict client) =
    HasMisfit (records gateway i) (refusals.Conflict client)
IsOpenFault gateway i refusals.Full = HasMisfit (records gateway i) refusals.Full
IsOpenFault gateway i (refusals.Disk excuse) = excuse ≡ only_sends []
IsOpenFault gateway i refusals.Memory = Unit {0}
IsOpenFault gateway i refusal = ⊥

-- the refusal is that the disk failed
abbrev pub IsDiskFault : Refusal → Type 0
IsDiskFault (refusals.Disk excuse) = Unit {0}
IsDiskFault refusal = ⊥

-- An opening may be refused so. Nothing is sent if the disk failed. The journal's own faults are
-- those of what is in the slots: a failure of the disk is never one of them.
abbrev pub MayRefuse : Refusal → Type 0
MayRefuse (refusals.Disk excuse) = excuse ≡ only_sends []
MayRefuse (refusals.Conflict client) = Unit {0}
MayRefuse refusals.Full = Unit {0}
MayRefuse (refusals.Journal journal_faults.Foreign) = Unit {0}
MayRefuse (refusals.Journal (journal_faults.BadRecord slot at)) = Unit {0}
MayRefuse refusals.Memory = Unit {0}
MayRefuse refusal = ⊥

-- What a refused opening leaves in the slots. If they are no journal of this gateway, they are
-- synced and not changed. If a record does not fit, they are as an opening leaves them. If memory
-- ran out, they are untouched, or one of these. If the disk failed, another clause says what a
-- crash leaves.
abbrev pub LeavesSlots : ℕ → Slots → Refusal → Slots → Type 0
LeavesSlots gateway old (refusals.Journal fault) new = new ≡ synced_slots old
LeavesSlots gateway old (refusals.Conflict client) new = new ≡ recovered gateway (image old)
LeavesSlots gateway old refusals.Full new = new ≡ recovered gateway (image old)
LeavesSlots gateway old refusals.Memory new =
    (new ≡ old) ⊎ ((new ≡ synced_slots old) ⊎ (new ≡ recovered gateway (image old)))
LeavesSlots gateway old (refusals.Disk excuse) new = Unit {0}
LeavesSlots gateway old refusal new = ⊥

-- ---- a node is opened again

-- the image that an opening of the node's disk would read
abbrev pub image_of : {D : Type 0} {G : Ghosts D} → State G → Image
image_of {G = G} state = image (G.slots (disk_under state.journal))

-- the journal goes on in this slot
pub record GoesOnIn {D : Type 0} {G : Ghosts D} (state : State G) (gateway : ℕ)
    (i : Image) : Type 0 where
  pub slot : slot_of state.journal ≡ slot_read gateway i
  pub generation : generation_of state.journal ≡ generation_read gateway i

-- The node is as it was opened: it is not halted, and knows nothing but what the records of its
-- journal gave it.
pub record IsReopened {D : Type 0} {G : Ghosts D} (old new : State G) : Type 0 where
  pub config : new.config ≡ old.config
  pub local : new.local ≡ no_local
  pub runs : is_halted new ≡ false
  pub gateway : gateway_of new.journal ≡ gateway_of old.journal
  pub failures : G.failures (disk_under old.journal) ≤ G.failures (disk_under new.journal)
  pub starved : G.starved (disk_under old.journal) ≡ true
      → G.starved (disk_under new.journal) ≡ true
  pub records : G.honest → new.records ≡ length (on_disk old)
  pub keeps : G.honest → Keeps (all_of (on_disk old)) new.kept
  pub none : G.honest → on_disk old ≡ [] → new.kept ≡ []
  pub fits : G.honest → FitInTurn [] (on_disk old)
  pub found : G.honest → fault_of (gateway_of old.journal) (image_of old) ≡ None
  pub place : G.honest → GoesOnIn new (gateway_of old.journal) (image_of old)
  pub known : G.honest → G.slots (disk_under new.journal) ≡ recovered (gateway_of old.journal)
      (image_of old)
  pub durable : G.honest → Leaves (gateway_of old.journal) (G.slots (disk_under new.journal))
      (on_disk old)
  -- a failure that is arranged for an append stays arranged
  pub quiet : G.honest → G.starved (disk_under new.journal) ≡ false
      → IsTrue (misses_failure (G.outlook (disk_under old.journal)) (is_fresh (image_of old)))
      → G.outlook (disk_under new.journal) ≡ G.outlook (disk_under old.journal)

-- The node was not opened again: what it keeps and knows is as before, and no crash leaves what it
-- could not have left before. It is halted; only if memory ran out is it halted or not as before.
pub record IsNotReopened {D : Type 0} {G : Ghosts D} (old : State G) (refusal : Refusal)
    (new : State G) : Type 0 where
  pub config : new.config ≡ old.config
  pub records : new.records ≡ old.records
  pub kept : new.kept ≡ old.kept
  pub local : new.local ≡ old.local
  pub gateway : gateway_of new.journal ≡ gateway_of old.journal
  pub halts : refusal ≢ refusals.Memory → is_halted new ≡ true
  pub wanting : refusal ≡ refusals.Memory → is_halted new ≡ is_halted old
  pub failures : G.failures (disk_under old.journal) ≤ G.failures (disk_under new.journal)
  pub cause : IsDiskFault refusal → G.failures (disk_under old.journal)
      < G.failures (disk_under new.journal)
  pub starved : G.starved (disk_under old.journal) ≡ true
      → G.starved (disk_under new.journal) ≡ true
  pub fault : G.honest → IsOpenFault (gateway_of old.journal) (image_of old) refusal
  pub slots : G.honest → LeavesSlots (gateway_of old.journal) (G.slots (disk_under old.journal))
      refusal (G.slots (disk_under new.journal))
  pub leaves : G.honest → LeavesNoMore (gateway_of old.journal) (G.slots (disk_under old.journal))
      (G.slots (disk_under new.journal))
  pub blameless : G.honest → G.starved (disk_under new.journal) ≡ false
      → IsTrue (misses_failure (G.outlook (disk_under old.journal)) (is_fresh (image_of old)))
      → (IsDiskFault refusal → ⊥)
      × (G.outlook (disk_under new.journal) ≡ G.outlook (disk_under old.journal))

-- The node is opened again, halted or not; nothing is sent.
abbrev pub ReopenCall : {D : Type 0} {G : Ghosts D} → State G → Result Out Refusal → State G
    → Type 0
ReopenCall old (Ok out) new = (out ≡ only_sends []) × IsReopened old new
ReopenCall old (Err refusal) new = MayRefuse refusal × IsNotReopened old refusal new
