-- The disk under a gateway as its operator believes it.
use Rattle.std.specs.Prelude.{◌≡◌, ℕ, ◌+◌, ◌-◌, Bool, true, false, if◌then◌else◌, length, List, [], ◌∷◌, Option, Some, None}
use Rattle.rep_op.specs.declared.op.Op.{Op}
use Rattle.jr_disk.specs.declared.disk.Slot.{Slot}
use Rattle.jr_disk.specs.declared.disk.Failure.{Failure}
use Rattle.jr_disk.specs.declared.disk.Failure.TheVariants.{Stop, KeepBack}
use Rattle.jr_disk.specs.Disk.{Slots, Image, at, after_crash}
use Rattle.jr_journal.specs.Records.{written, written_all, base_bytes, slot_content, generation_in, records}
use Rattle.jr_journal.specs.Crashes.{recovered}
use Rattle.jr_journal.specs.Arranged.{after_append}
use Rattle.jr_journal.specs.Journals.{other_slot, emptied}
use Rattle.jr_journal.specs.Opening.{slot_read}

-- the disk under a gateway: its two slots, the one that the journal writes, whether a write has
-- failed since it was opened, and the failure that is arranged
pub record Drive : Type 0 where
  pub slots : Slots
  pub slot : Slot
  pub halted : Bool
  pub plan : Option Failure

-- the disk once a journal is opened on this image; a failure that is arranged stays so
abbrev pub opened : ℕ → Option Failure → Image → Drive
opened gateway plan i =
    record { slots = recovered gateway i; slot = slot_read gateway i; halted = false; plan = plan }

-- the disk at the start: it has only what an opening of an empty disk begins
abbrev pub new_drive : ℕ → Drive
new_drive gateway = opened gateway None (record { first = []; second = [] })

-- the disk once the delta is one more record, and synced
abbrev pub with_record : List Op → Drive → Drive
with_record delta drive =
    record drive { slots = after_append None drive.slots drive.slot (written delta) }

-- no failure is arranged for what is to be written; a delta without operations is not written
abbrev pub GoesOut : List Op → Drive → Type 0
GoesOut [] drive = Unit {0}
GoesOut (op ∷ ops) drive = drive.plan ≡ None

-- the disk if this failure comes as the delta is written: the journal is halted
abbrev pub torn : Failure → List Op → Drive → Drive
torn plan delta drive =
    record drive {
      slots = after_append (Some plan) drive.slots drive.slot (written delta);
      halted = true;
      plan = None;
    }

-- the disk if this failure comes as the deltas are written at once: the journal is halted
abbrev pub torn_all : Failure → List (List Op) → Drive → Drive
torn_all plan deltas drive =
    record drive {
      slots = after_append (Some plan) drive.slots drive.slot (written_all deltas);
      halted = true;
      plan = None;
    }

-- the disk once the delta is written; one without operations is not
abbrev pub noted : List Op → Drive → Drive
noted [] drive = drive
noted (op ∷ ops) drive = with_record (op ∷ ops) drive

-- the generation of the slot that the journal writes, as its header says
abbrev pub generation : ℕ → Drive → ℕ
generation gateway drive = generation_in (slot_content gateway (at drive.slots drive.slot).synced)

-- the disk after a compaction: the journal goes on in the other slot, which has a header of the
-- next generation, the base and the seal
abbrev pub compacted : ℕ → List (List Op) → Drive → Drive
compacted gateway base drive = record drive {
  slots = after_append None (emptied drive.slots (other_slot drive.slot)) (other_slot drive.slot)
      (base_bytes gateway (generation gateway drive + 1) base);
  slot = other_slot drive.slot;
}

-- the disk if this failure comes as the base of a compaction is written: the journal is halted
abbrev pub torn_base : Failure → ℕ → List (List Op) → Drive → Drive
torn_base plan gateway base drive = record drive {
  slots =
      after_append (Some plan) (emptied drive.slots (other_slot drive.slot)) (other_slot drive.slot)
      (base_bytes gateway (generation gateway drive + 1) base);
  halted = true;
  plan = None;
}

-- a failure is arranged, and no other: the next append stops after so many bytes, or in its sync
abbrev pub arranged : ℕ → Bool → Drive → Drive
arranged bytes sync drive = record drive { plan = Some (if sync then KeepBack else Stop bytes) }

-- what is left if the gateway stops: of each slot the synced bytes, and the first so many of those
-- that are not
abbrev pub left_by : ℕ → Drive → Image
left_by kept drive = after_crash kept kept drive.slots

-- how many records more an image has than are synced: so many first ones of the deltas that were
-- refused are in it
abbrev pub more_records : ℕ → Drive → Image → ℕ
more_records gateway drive i =
    length (records gateway i) - length (records gateway (left_by 0 drive))
