-- Why a call may not reach the gateway, and which refusal says that the gateway is halted.
use Rattle.std.specs.Prelude.{Bool, true, false, Result, Err}
use Rattle.gw_answer.specs.declared.out.Out.{Out}
use Rattle.gw_answer.specs.declared.refusal.Refusal.{Refusal}
use Rattle.gw_answer.specs.declared.refusal.Refusal.TheVariants as refusals
use Rattle.gw_link.specs.declared.calling.End.{End}
use Rattle.gw_link.specs.declared.calling.End.TheVariants as ends

-- why a call may not reach the gateway
abbrev pub CannotCall : End → Type 0
CannotCall ends.Full = Unit {0}
CannotCall ends.Memory = Unit {0}
CannotCall ends.Behind = Unit {0}
CannotCall end = ⊥

-- the gateway refused since it is halted
abbrev pub says_halted : Result Out Refusal → Bool
says_halted (Err refusals.Halted) = true
says_halted answer = false
