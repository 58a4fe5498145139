-- Where an opened journal goes on, and what a refused opening leaves of its slots.
use Rattle.std.specs.Prelude.{ℕ, if◌then◌else◌}
use Rattle.jr_disk.specs.declared.disk.Slot.{Slot}
use Rattle.jr_disk.specs.declared.disk.Slot.TheVariants.{First, Second}
use Rattle.jr_disk.specs.Disk.{Slots, Image, all_synced}
use Rattle.jr_journal.specs.Records.{slot_content, generation_in}
use Rattle.jr_journal.specs.Faults.{is_fresh}
use Rattle.jr_journal.specs.Crashes.{reads_first}

-- both slots, all synced
abbrev pub synced_slots : Slots → Slots
synced_slots d = record { first = all_synced d.first; second = all_synced d.second }

-- the slot that is read: of two sealed ones that of the greater generation; a new journal begins in
-- the first
abbrev pub slot_read : ℕ → Image → Slot
slot_read gateway i =
    if is_fresh i then First
    else (if reads_first (slot_content gateway i.first) (slot_content gateway i.second) then First
    else Second)

-- the generation of the slot that is read; a new journal has the first
abbrev pub generation_read : ℕ → Image → ℕ
generation_read gateway i =
    if is_fresh i then 1 else (
    if reads_first (slot_content gateway i.first) (slot_content gateway i.second)
    then generation_in (slot_content gateway i.first)
    else generation_in (slot_content gateway i.second))
