-- What became of a journal that had a delta to write.
use Rattle.std.specs.Prelude.{◌≡◌, ◌≢◌, ◌≤◌, ◌<◌, ◌+◌, true, false, List, [], ◌∷◌, ◌++◌, None, Ok, Err}
use Rattle.rep_op.specs.declared.op.Op.{Op}
use Rattle.jr_disk.specs.declared.disk.Disk.{Ghosts}
use Rattle.jr_journal.specs.declared.fault.JournalFault.TheVariants as faults
use Rattle.jr_journal.specs.declared.journal.Journal.{Journal}
use Rattle.jr_disk.specs.Disk.{at, image}
use Rattle.jr_journal.specs.Records.{written, base_bytes, slot_content, generation_in, records}
use Rattle.jr_journal.specs.Crashes.{Leaves, LeavesOneMore, LeavesEither}
use Rattle.jr_journal.specs.Arranged.{after_append, IsStruck, AppendedAs}
use Rattle.jr_journal.specs.Journals.{other_slot, emptied, last_generation}
use Rattle.jr_journal.specs.Parts.{disk_under, gateway_of, slot_of, generation_of, is_stopped}

-- The delta is the last record: synced, so that every crash leaves it.
pub record IsWritten {D : Type 0} {G : Ghosts D} (old : Journal D G) (delta : List Op)
    (new : Journal D G) : Type 0 where
  pub gateway : gateway_of new ≡ gateway_of old
  pub slot : slot_of new ≡ slot_of old
  pub generation : generation_of new ≡ generation_of old
  pub runs : is_stopped old ≡ false
  pub goes_on : is_stopped new ≡ false
  pub failures : G.failures (disk_under old) ≤ G.failures (disk_under new)
  pub starved : G.starved (disk_under old) ≡ true → G.starved (disk_under new) ≡ true
  pub exact : G.honest → G.slots (disk_under new) ≡ after_append None (G.slots (disk_under old))
      (slot_of old) (written delta)
  pub durable : G.honest → Leaves (gateway_of old) (G.slots (disk_under new))
      (records (gateway_of old) (image (G.slots (disk_under old))) ++ delta ∷ [])
  -- if it is known which failure is arranged, there was none
  pub known : G.honest → G.starved (disk_under new) ≡ false
      → AppendedAs (G.outlook (disk_under old)) (G.slots (disk_under old)) (slot_of old)
      (written delta)
      (Ok (record {})) (G.slots (disk_under new)) (G.outlook (disk_under new))

-- The disk failed: the journal is halted, and a crash leaves the delta as one more record, or does
-- not.
pub record IsFailed {D : Type 0} {G : Ghosts D} (old : Journal D G) (delta : List Op)
    (new : Journal D G) : Type 0 where
  pub gateway : gateway_of new ≡ gateway_of old
  pub slot : slot_of new ≡ slot_of old
  pub generation : generation_of new ≡ generation_of old
  pub runs : is_stopped old ≡ false
  pub halts : is_stopped new ≡ true
  pub cause : G.failures (disk_under old) < G.failures (disk_under new)
  pub starved : G.starved (disk_under old) ≡ true → G.starved (disk_under new) ≡ true
  -- it is as one of the failures leaves it
  pub struck : IsStruck G.honest (G.slots (disk_under old)) (slot_of old) (written delta)
      (G.slots (disk_under new))
  pub torn : G.honest → LeavesOneMore (gateway_of old) (G.slots (disk_under new))
      (records (gateway_of old) (image (G.slots (disk_under old)))) delta
  -- if it is known which failure is arranged, it is this one
  pub known : G.honest → G.starved (disk_under new) ≡ false
      → AppendedAs (G.outlook (disk_under old)) (G.slots (disk_under old)) (slot_of old)
      (written delta)
      (Err faults.Disk) (G.slots (disk_under new)) (G.outlook (disk_under new))

-- ---- a compaction

-- on an honest disk the generation is the one that the header of the slot in use has
abbrev pub HasReadGeneration : {D : Type 0} {G : Ghosts D} → Journal D G → Type 0
HasReadGeneration {G = G} journal =
    G.honest → generation_of journal
    ≡ generation_in (slot_content (gateway_of journal)
    (at (G.slots (disk_under journal)) (slot_of journal)).synced)

-- The base is all that the journal holds. It is synced in the other slot, in which the journal goes
-- on, and every crash leaves it.
pub record IsRewritten {D : Type 0} {G : Ghosts D} (old : Journal D G) (base : List (List Op))
    (new : Journal D G) : Type 0 where
  pub gateway : gateway_of new ≡ gateway_of old
  pub slot : slot_of new ≡ other_slot (slot_of old)
  pub generation : generation_of new ≡ generation_of old + 1
  pub runs : is_stopped old ≡ false
  pub goes_on : is_stopped new ≡ false
  pub number : HasReadGeneration old
  pub room : generation_of old ≢ last_generation
  pub failures : G.failures (disk_under old) ≤ G.failures (disk_under new)
  pub starved : G.starved (disk_under old) ≡ true → G.starved (disk_under new) ≡ true
  pub exact : G.honest → G.slots (disk_under new)
      ≡ after_append None (emptied (G.slots (disk_under old)) (other_slot (slot_of old)))
      (other_slot (slot_of old)) (base_bytes (gateway_of old) (generation_of old + 1) base)
  pub durable : G.honest → Leaves (gateway_of old) (G.slots (disk_under new)) base
  -- if it is known which failure is arranged, there was none
  pub known : G.honest → G.starved (disk_under new) ≡ false
      → AppendedAs (G.outlook (disk_under old))
      (emptied (G.slots (disk_under old)) (other_slot (slot_of old)))
      (other_slot (slot_of old)) (base_bytes (gateway_of old) (generation_of old + 1) base)
      (Ok (record {})) (G.slots (disk_under new)) (G.outlook (disk_under new))

-- The disk failed: the journal is halted, and a crash leaves the records from before, or the base
-- in their place.
pub record IsNotRewritten {D : Type 0} {G : Ghosts D} (old : Journal D G) (base : List (List Op))
    (new : Journal D G) : Type 0 where
  pub gateway : gateway_of new ≡ gateway_of old
  pub slot : slot_of new ≡ slot_of old
  pub generation : generation_of new ≡ generation_of old
  pub runs : is_stopped old ≡ false
  pub halts : is_stopped new ≡ true
  pub number : HasReadGeneration old
  pub room : generation_of old ≢ last_generation
  pub cause : G.failures (disk_under old) < G.failures (disk_under new)
  pub starved : G.starved (disk_under old) ≡ true → G.starved (disk_under new) ≡ true
  pub torn : G.honest → LeavesEither (gateway_of old) (G.slots (disk_under new))
      (records (gateway_of old) (image (G.slots (disk_under old)))) base
  -- if it is known which failure is arranged, it is this one
  pub known : G.honest → G.starved (disk_under new) ≡ false
      → AppendedAs (G.outlook (disk_under old))
      (emptied (G.slots (disk_under old)) (other_slot (slot_of old)))
      (other_slot (slot_of old)) (base_bytes (gateway_of old) (generation_of old + 1) base)
      (Err faults.Disk) (G.slots (disk_under new)) (G.outlook (disk_under new))
