-- What the clock's thread adds to its pass, and why it ended.
use Rattle.std.specs.Prelude.{◌≡◌, ◌⊎◌, ℕ, Bool, true, false, Option, Some, None, Result, Ok, Err}
use Rattle.gw_answer.specs.declared.step.Step.{Step}
use Rattle.gw_answer.specs.declared.step.Step.TheVariants as steps
use Rattle.gw_answer.specs.declared.out.Out.{Out}
use Rattle.gw_answer.specs.declared.refusal.Refusal.{Refusal}
use Rattle.gw_answer.specs.declared.refusal.Refusal.TheVariants as refusals
use Rattle.gw_shift.specs.Calls.{Held, Holder}
use Rattle.gw_shift.specs.Calling.{Made}
use Rattle.gw_link.specs.Adding.{AddsEach}
use Rattle.gw_link.specs.Calling.{CannotCall, says_halted}
use Rattle.gw_link.specs.declared.calling.End.{End}
use Rattle.gw_link.specs.declared.calling.End.TheVariants as ends

-- the clock's calls
abbrev pub is_tick : Step → Bool
is_tick (steps.Tick now) = true
is_tick step = false

-- a tick that did not find the gateway halted
abbrev pub IsLiveTick : Held → Type 0
IsLiveTick held = (is_tick held.step ≡ true) × (says_halted held.answer ≡ false)

-- one more call of the pass: a tick, which found the gateway halted
abbrev pub FindsHalted : Holder → Holder → Type 0
FindsHalted before after =
    (moment number : ℕ) × Made before (steps.Tick moment) (Err refusals.Halted) number after

-- one more call of the pass: the gateway is to be opened again, and answers so
abbrev pub Reopens : Holder → Result Out Refusal → Holder → Type 0
Reopens before answer after = (number : ℕ) × Made before steps.Reopen answer number after

-- How a gateway that was found halted was opened again. It was, or refused that; or the call could
-- not be made.
abbrev pub OpensAs : Holder → End → Holder → Type 0
OpensAs before ends.Reopened after = (out : Out) × Reopens before (Ok out) after
OpensAs before ends.Halted after = (refusal : Refusal) × Reopens before (Err refusal) after
OpensAs before ends.Lost after = ⊥
OpensAs before end after = after ≡ before

-- What comes after the ticks that did not find the gateway halted, by why the clock ended. It is
-- nothing, or one that did, and then the call by which the gateway was opened again.
abbrev pub ClockEndsAs : Holder → Option End → Holder → Type 0
ClockEndsAs before None after = after ≡ before
ClockEndsAs before (Some end) after =
    (CannotCall end × (after ≡ before))
    ⊎ ((found : Holder) × FindsHalted before found × OpensAs found end after)

-- The pass holds what it held, and then ticks that did not find the gateway halted. Then it ends
-- so, and holds nothing else.
abbrev pub AddsOfClock : Holder → Option End → Holder → Type 0
AddsOfClock before end after =
    (ticked : Holder) × AddsEach IsLiveTick before ticked × ClockEndsAs ticked end after
