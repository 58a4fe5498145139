-- Which fault there is in two slots.
use Rattle.std.specs.Prelude.{Option, Some, None, Bool, true, false}
use Rattle.jr_journal.specs.declared.fault.JournalFault.{JournalFault}

-- whether there is no fault
abbrev pub is_none : Option JournalFault → Bool
is_none None = true
is_none (Some fault) = false
