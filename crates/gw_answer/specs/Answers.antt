-- What a call of a gateway answers.
use Rattle.std.specs.Prelude.{ℕ, List, [], None, Result, Ok, Err}
use Rattle.std.specs.Arc.{arc_value}
use Rattle.std.specs.declared.sync.Arc.{Arc}
use Rattle.std.specs.declared.alloc.Global.{Global}
use Rattle.sn_local.specs.declared.config.Send.{Send}
use Rattle.gw_answer.specs.declared.out.Out.{Out}
use Rattle.gw_answer.specs.declared.fault.NodeFault.{NodeFault}
use Rattle.gw_answer.specs.declared.fault.NodeFault.TheVariants as faults
use Rattle.gw_answer.specs.declared.refusal.Refusal.{Refusal}
use Rattle.gw_answer.specs.declared.refusal.Refusal.TheVariants as refusals

-- a refusal by its value, whoever has a share of it
abbrev pub refusal_of_fault : NodeFault → Refusal
refusal_of_fault (faults.Frame fault) = refusals.Frame fault
refusal_of_fault faults.Halted = refusals.Halted
refusal_of_fault (faults.Disk out) = refusals.Disk (arc_value out)
refusal_of_fault (faults.Conflict of) = refusals.Conflict of
refusal_of_fault faults.Full = refusals.Full
refusal_of_fault faults.Exhausted = refusals.Exhausted
refusal_of_fault (faults.Journal fault) = refusals.Journal fault
refusal_of_fault faults.Memory = refusals.Memory

-- the number by which programs print a refusal, with an `N` in front of it
abbrev pub refusal_number : Refusal → ℕ
refusal_number (refusals.Frame fault) = 1
refusal_number refusals.Halted = 2
refusal_number (refusals.Disk excuse) = 3
refusal_number (refusals.Conflict of) = 4
refusal_number refusals.Full = 5
refusal_number refusals.Exhausted = 6
refusal_number refusals.Memory = 7
refusal_number (refusals.Journal fault) = 8

-- an answer by its value, whoever has a share of it
abbrev pub said : Result (Arc Out Global) NodeFault → Result Out Refusal
said (Ok out) = Ok (arc_value out)
said (Err fault) = Err (refusal_of_fault fault)

-- an answer that sends these datagrams and says nothing else
abbrev pub only_sends : List Send → Out
only_sends sends = record { sends = sends; made = None; answer = []; digest = None; view = None }
