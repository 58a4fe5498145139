-- What opening a journal makes of the two slots.
use Rattle.std.specs.Prelude.{None, ◌≡◌, ◌⊎◌, ℕ, ◌+◌, Bool, true, false, if◌then◌else◌, List, [], length, take}
use Rattle.rep_op.specs.declared.op.Op.{Op}
use Rattle.jr_disk.specs.declared.disk.Slot.{Slot}
use Rattle.jr_disk.specs.declared.disk.Slot.TheVariants.{First, Second}
use Rattle.jr_journal.specs.declared.content.SlotContent.{SlotContent}
use Rattle.jr_journal.specs.declared.content.SlotContent.TheVariants.{Sealed}
use Rattle.jr_journal.specs.declared.opening.Opening.{Opening}
use Rattle.jr_journal.specs.declared.opening.Opening.TheVariants.{New, Held}
use Rattle.jr_disk.specs.Disk.{Slots, Image, at, replaced, bytes_of, cut_to}
use Rattle.jr_journal.specs.Records.{new_journal, slot_content}
use Rattle.jr_journal.specs.Faults.{fault_of}
use Rattle.jr_journal.specs.Crashes.{synced_bytes, reads_first}

-- the slots with what the image has, all of it synced
abbrev pub synced_image : Image → Slots
synced_image i = record { first = synced_bytes i.first; second = synced_bytes i.second }

-- the journal goes on in a slot of so many bytes, if it is sealed
abbrev pub held_in_slot : Slot → SlotContent → ℕ → Opening
held_in_slot slot (Sealed m f) size = Held slot m f size
held_in_slot slot content size = New

-- what is to be done with two slots of so many bytes that have no fault
abbrev pub opening_of : SlotContent → ℕ → SlotContent → ℕ → Opening
opening_of a size b beside =
    if reads_first a b then held_in_slot First a size else held_in_slot Second b beside

-- the deltas that an opening gives; none if it begins a new journal
abbrev pub deltas_of : Opening → List (List Op)
deltas_of New = []
deltas_of (Held slot m f size) = f.deltas

-- the slot that the journal goes on in; the first if it is new
abbrev pub opening_slot : Opening → Slot
opening_slot New = First
opening_slot (Held slot m f size) = slot

-- the generation that the journal goes on in; 1 if it is new
abbrev pub opening_generation : Opening → ℕ
opening_generation New = 1
opening_generation (Held slot m f size) = m

-- the slots have no fault, and this is to be done with them
abbrev pub IsOpening : ℕ → Image → Opening → Type 0
IsOpening gateway i opening =
    (fault_of gateway i ≡ None)
    × (opening ≡ opening_of (slot_content gateway i.first) (length i.first)
    (slot_content gateway i.second) (length i.second))

-- the size in an opening is that of the bytes of its slot
abbrev pub IsSized : Opening → Slots → Type 0
IsSized New d = Unit {0}
IsSized (Held slot m f size) d = size ≡ length (bytes_of (at d slot))

-- the slots once what an opening has to do is done
abbrev pub settled : ℕ → Opening → Slots → Slots
settled gateway New d = replaced d First (synced_bytes (new_journal gateway))
settled gateway (Held slot m f size) d = replaced d slot (cut_to (at d slot) (13 + f.whole))

-- whether the opening begins a new journal
abbrev pub is_new : Opening → Bool
is_new New = true
is_new (Held slot m f size) = false

-- a new journal was begun as far as this
abbrev pub IsBegun : ℕ → Slots → Slots → Type 0
IsBegun gateway old new =
    (new ≡ old) ⊎ ((w : ℕ)
    × (new ≡ replaced old First (record { synced = []; unsynced = take w (new_journal gateway) })))

-- the last step was done, or in part, or not
abbrev pub IsPartly : ℕ → Opening → Slots → Slots → Type 0
IsPartly gateway New old new = IsBegun gateway old new
IsPartly gateway (Held slot m f size) old new =
    (new ≡ old) ⊎ (new ≡ replaced old slot (cut_to (at old slot) (13 + f.whole)))
