-- The slots and the generations of a journal, and which faults an append and a compaction may
-- report.
use Rattle.std.specs.Prelude.{ℕ, ◌-◌, ◌^◌, Result, Ok, Err}
use Rattle.jr_disk.specs.declared.disk.Slot.{Slot}
use Rattle.jr_disk.specs.declared.disk.Slot.TheVariants.{First, Second}
use Rattle.jr_journal.specs.declared.fault.JournalFault.{JournalFault}
use Rattle.jr_journal.specs.declared.fault.JournalFault.TheVariants.{Disk, Foreign, BadRecord, Memory, Halted}
use Rattle.jr_disk.specs.Disk.{Slots, at, replaced, cut_to}

-- ---- slots and generations

-- the other of the two slots
abbrev pub other_slot : Slot → Slot
other_slot First = Second
other_slot Second = First

-- the slots once this one is cut to nothing
abbrev pub emptied : Slots → Slot → Slots
emptied d slot = replaced d slot (cut_to (at d slot) 0)

-- the last generation that a header can hold, 2^64 - 1
abbrev pub last_generation : ℕ
last_generation = 2 ^ 64 - 1

-- ---- faults

-- a fault that an append may report: Disk, Memory or Halted
abbrev pub IsAppendFault : JournalFault → Type 0
IsAppendFault Disk = Unit {0}
IsAppendFault Memory = Unit {0}
IsAppendFault Halted = Unit {0}
IsAppendFault fault = ⊥

-- a fault that an append of several records may report: Disk or Halted
abbrev pub IsWriteFault : JournalFault → Type 0
IsWriteFault Disk = Unit {0}
IsWriteFault Halted = Unit {0}
IsWriteFault fault = ⊥

-- a fault that a compaction may report: those of an append, and Foreign
abbrev pub IsCompactFault : JournalFault → Type 0
IsCompactFault (BadRecord place from) = ⊥
IsCompactFault fault = Unit {0}

-- a compaction was done, or the disk failed in it
abbrev pub IsTried : Result (Unit {0}) JournalFault → Type 0
IsTried (Ok done) = Unit {0}
IsTried (Err Disk) = Unit {0}
IsTried result = ⊥

-- a fault that a call reports before it has written anything: Memory, Halted or Foreign
abbrev pub IsBeforeWriting : JournalFault → Type 0
IsBeforeWriting Memory = Unit {0}
IsBeforeWriting Halted = Unit {0}
IsBeforeWriting Foreign = Unit {0}
IsBeforeWriting fault = ⊥
