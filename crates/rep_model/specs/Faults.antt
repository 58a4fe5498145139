-- The numbers of the faults.
use Rattle.std.specs.Prelude.{ℕ}
use Rattle.rep_model.specs.declared.fault.TakeFault.{TakeFault}
use Rattle.rep_model.specs.declared.fault.TakeFault.TheVariants.{Conflict, Full, Memory}

-- the number by which reports name a fault
abbrev pub take_fault_number : TakeFault → ℕ
take_fault_number (Conflict about) = 1
take_fault_number (Full limit) = 2
take_fault_number Memory = 3
