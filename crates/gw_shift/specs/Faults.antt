-- Why a shift is not opened, why a call has no answer, and why a shift is not closed, by number.
use Rattle.std.specs.Prelude.{ℕ}
use Rattle.gw_shift.specs.declared.fault.ShiftFault.{ShiftFault}
use Rattle.gw_shift.specs.declared.fault.ShiftFault.TheVariants as opens
use Rattle.gw_shift.specs.declared.fault.CallFault.{CallFault}
use Rattle.gw_shift.specs.declared.fault.CallFault.TheVariants as calls
use Rattle.gw_shift.specs.declared.fault.CloseFault.{CloseFault}
use Rattle.gw_shift.specs.declared.fault.CloseFault.TheVariants as closes

-- the number of an opening's fault
abbrev pub open_number : ShiftFault → ℕ
open_number opens.Memory = 6

-- the number of a call's fault
abbrev pub call_fault_number : CallFault → ℕ
call_fault_number calls.ShiftFull = 1
call_fault_number (calls.Behind held) = 2
call_fault_number (calls.Node number fault) = 3
call_fault_number calls.Memory = 6

-- the number of a closing's fault
abbrev pub close_number : CloseFault → ℕ
close_number (closes.Missing steps held) = 4
close_number (closes.Stranger number) = 5
