-- The parts of a journal.
use Rattle.std.specs.Prelude.{ℕ, Bool}
use Rattle.jr_disk.specs.declared.disk.Disk.{Ghosts}
use Rattle.jr_disk.specs.declared.disk.Slot.{Slot}
use Rattle.jr_journal.specs.declared.journal.Journal.{Journal}

-- the disk that a journal is on
abbrev pub disk_under : {D : Type 0} {G : Ghosts D} → Journal D G → D
disk_under journal = journal.disk

-- the number of the gateway that a journal is of
abbrev pub gateway_of : {D : Type 0} {G : Ghosts D} → Journal D G → ℕ
gateway_of journal = journal.gateway

-- the slot that a journal writes
abbrev pub slot_of : {D : Type 0} {G : Ghosts D} → Journal D G → Slot
slot_of journal = journal.slot

-- the generation of the slot that a journal writes
abbrev pub generation_of : {D : Type 0} {G : Ghosts D} → Journal D G → ℕ
generation_of journal = journal.generation

-- whether a write has failed since it was opened, or a try to open it again, or it was halted
abbrev pub is_stopped : {D : Type 0} {G : Ghosts D} → Journal D G → Bool
is_stopped journal = journal.halted
