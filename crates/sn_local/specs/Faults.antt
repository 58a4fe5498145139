-- The numbers of the faults.
use Rattle.std.specs.Prelude.{ℕ}
use Rattle.sn_local.specs.declared.fault.StepFault.{StepFault}
use Rattle.sn_local.specs.declared.fault.StepFault.TheVariants.{Exhausted, Memory}

-- the number by which reports name a fault
abbrev pub step_fault_number : StepFault → ℕ
step_fault_number Exhausted = 1
step_fault_number Memory = 2
