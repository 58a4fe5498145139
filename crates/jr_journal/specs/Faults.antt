-- Which fault there is in two slots.
use Rattle.std.specs.Prelude.{Option, Some, None, ◌≡◌, ℕ, Bool, true, false, ◌&&◌, if◌then◌else◌, nat_lt, List, [], ◌∷◌, length}
use Rattle.jr_disk.specs.declared.disk.Slot.TheVariants.{First, Second}
use Rattle.jr_journal.specs.declared.fault.JournalFault.{JournalFault}
use Rattle.jr_journal.specs.declared.fault.JournalFault.TheVariants.{Disk, Foreign, BadRecord, Memory, Halted}
use Rattle.jr_journal.specs.declared.content.SlotContent.{SlotContent}
use Rattle.jr_journal.specs.declared.content.SlotContent.TheVariants.{Alien, Unsealed, Sealed, Broken}
use Rattle.jr_disk.specs.Disk.{Image}
use Rattle.jr_journal.specs.Records.{slot_content}

-- whether there are no bytes
abbrev pub is_nil : List ℕ → Bool
is_nil [] = true
is_nil (b ∷ rest) = false

-- the image has no journal yet: the second slot is empty, and the first shorter than a header with
-- its seal
abbrev pub is_fresh : Image → Bool
is_fresh i = is_nil i.second && nat_lt (length i.first) 14

-- The fault of two slots. First a header of another gateway; then a bad piece, also in the slot
-- that is not read; of both the first slot first. Then two seals of one generation, or none.
abbrev pub slots_fault : SlotContent → SlotContent → Bool → Option JournalFault
slots_fault Alien right fresh = Some Foreign
slots_fault left Alien fresh = Some Foreign
slots_fault (Broken at) right fresh = Some (BadRecord First at)
slots_fault left (Broken from) fresh = Some (BadRecord Second from)
slots_fault (Sealed m f) (Sealed n g) fresh =
    if nat_lt m n then None else (if nat_lt n m then None else Some Foreign)
slots_fault Unsealed Unsealed fresh = if fresh then None else Some Foreign
slots_fault left right fresh = None

-- the fault of an image, if any
abbrev pub fault_of : ℕ → Image → Option JournalFault
fault_of gateway i =
    slots_fault (slot_content gateway i.first) (slot_content gateway i.second) (is_fresh i)

-- It is the fault of the image. That memory ran out, or that the disk failed, says nothing of the
-- image.
abbrev pub IsImageFault : Option JournalFault → JournalFault → Type 0
IsImageFault fault Disk = Unit {0}
IsImageFault fault Memory = Unit {0}
IsImageFault fault Foreign = fault ≡ Some Foreign
IsImageFault fault (BadRecord slot at) = fault ≡ Some (BadRecord slot at)
IsImageFault fault Halted = fault ≡ Some Halted

-- the number by which programs print a fault, with a `J` in front of it
abbrev pub fault_number : JournalFault → ℕ
fault_number Disk = 1
fault_number Foreign = 2
fault_number (BadRecord slot at) = 3
fault_number Memory = 4
fault_number Halted = 5
