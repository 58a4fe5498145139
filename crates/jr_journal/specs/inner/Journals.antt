-- What a journal keeps true of its disk.
use Rattle.std.specs.Prelude.{ℕ, ◌+◌, ◌==◌, Bool, true, false, ◌&&◌, nat_lt, length}
use Rattle.jr_disk.specs.declared.disk.Slot.{Slot}
use Rattle.jr_journal.specs.declared.content.SlotContent.{SlotContent}
use Rattle.jr_journal.specs.declared.content.SlotContent.TheVariants.{Alien, Unsealed, Sealed, Broken}
use Rattle.jr_disk.specs.Disk.{Slots, at}
use Rattle.jr_journal.specs.inner.Disk.{synced_part}
use Rattle.jr_journal.specs.Records.{slot_content, generation_in}
use Rattle.jr_journal.specs.Faults.{is_nil, fault_of}
use Rattle.jr_journal.specs.inner.Faults.{is_none}
use Rattle.jr_journal.specs.Journals.{other_slot}

-- nothing is read of the slot beside a sealed one of this generation
abbrev pub is_older : SlotContent → ℕ → Bool
is_older (Sealed n g) generation = nat_lt n generation
is_older Unsealed generation = true
is_older Alien generation = false
is_older (Broken from) generation = false

-- a slot of so many bytes is read, it ends with a whole piece, and beside it the other is not read
abbrev pub leads : SlotContent → ℕ → SlotContent → Bool
leads (Sealed generation f) size beside = (13 + f.whole == size) && is_older beside generation
leads content size beside = false

-- all is synced, the slot in use is the one that is read and ends with a whole piece, and there is
-- no fault
abbrev pub is_settled : ℕ → Slot → Slots → Bool
is_settled gateway slot d =
    is_nil d.first.unsynced && is_nil d.second.unsynced
    && leads (slot_content gateway (at d slot).synced) (length (at d slot).synced)
    (slot_content gateway (at d (other_slot slot)).synced)
    && is_none (fault_of gateway (synced_part d))

-- the journal is settled, and this is the generation of the slot in use
abbrev pub is_in_use : ℕ → Slot → ℕ → Slots → Bool
is_in_use gateway slot generation d =
    is_settled gateway slot d
    && (generation_in (slot_content gateway (at d slot).synced) == generation)
