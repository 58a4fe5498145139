-- What a refused call means.
use Rattle.std.specs.Prelude.{Option, Some, None, Result, Ok, Err}
use Rattle.gw_answer.specs.declared.refusal.Refusal.{Refusal}
use Rattle.gw_answer.specs.declared.refusal.Refusal.TheVariants as refusals
use Rattle.gw_answer.specs.declared.fault.NodeFault.{NodeFault}
use Rattle.gw_shift.specs.declared.fault.CallFault.{CallFault}
use Rattle.gw_shift.specs.declared.fault.CallFault.TheVariants as faults
use Rattle.gw_link.specs.declared.calling.End.{End}
use Rattle.gw_link.specs.declared.calling.End.TheVariants as ends
use Rattle.gw_link.specs.declared.trouble.Trouble.{Trouble}
use Rattle.gw_link.specs.declared.trouble.Trouble.TheVariants as troubles

-- what a refused call means: the gateway's refusal, or why the call did not reach it
abbrev pub reached_by : CallFault → Result NodeFault End
reached_by faults.ShiftFull = Err ends.Full
reached_by (faults.Behind held) = Err ends.Behind
reached_by faults.Memory = Err ends.Memory
reached_by (faults.Node number fault) = Ok fault

-- how a link ends where an answer could not be given: want of memory ends this link alone
abbrev pub alone : End → End
alone ends.Lost = ends.Lost
alone ends.Full = ends.Full
alone ends.Memory = ends.Lost
alone ends.Behind = ends.Behind
alone ends.Halted = ends.Halted
alone ends.Reopened = ends.Reopened

-- the trouble that a refusal of what another gateway told is, if an operator should hear of it
abbrev pub trouble_of : Refusal → Option Trouble
trouble_of (refusals.Conflict client) = Some troubles.Conflict
trouble_of refusals.Full = Some troubles.TooMuch
trouble_of refusal = None
