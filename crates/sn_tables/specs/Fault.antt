-- Why an operation is refused.
use Rattle.std.specs.Prelude.{ℕ}
use Rattle.sn_tables.specs.declared.fault.SessionFault.{SessionFault}
use Rattle.sn_tables.specs.declared.fault.SessionFault.TheVariants.{Full, Memory}

-- the number by which reports name a fault
abbrev pub session_fault_number : SessionFault → ℕ
session_fault_number Full = 1
session_fault_number Memory = 2
