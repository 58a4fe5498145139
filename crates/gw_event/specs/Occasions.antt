-- What a gateway makes a plan for: a datagram, or that time goes by.
use Rattle.std.specs.Prelude.{◌≡◌, ◌≢◌, ℕ, List, Option}
use Rattle.sn_frame.specs.declared.frame.Frame.{Frame}
use Rattle.sn_frame.specs.declared.fault.FrameFault.{FrameFault}
use Rattle.sn_frame.specs.declared.fault.FrameFault.TheVariants as frame_faults
use Rattle.sn_frame.specs.Bodies.{IsValue}
use Rattle.sn_frame.specs.Grammar.{Spells}
use Rattle.sn_frame.specs.Faults.{IsFirstFault}
use Rattle.sn_local.specs.declared.config.Addr.{Addr}
use Rattle.sn_local.specs.declared.config.Config.{Config}
use Rattle.sn_plan.specs.declared.plan.Plan.{Plan}
use Rattle.sn_local.specs.Seen.{Seen}
use Rattle.sn_local.specs.Locals.{Local}
use Rattle.sn_deliver.specs.Steps.{step}
use Rattle.sn_tick.specs.Ticking.{tick}

-- a datagram from an address; or a tick of the clock
pub data Occasion : Type 0 where
  Datagram : Addr → List ℕ → Occasion
  Clock : Occasion

-- The plan for it at a moment, by what the gateway sees: the step table's for the frame that the
-- bytes spell, or that of a tick. It is None if it needs a number after the last.
abbrev pub IsPlanOf : Config → Seen → Local → Occasion → ℕ → Option Plan → Type 0
IsPlanOf config seen local (Datagram from bytes) now plan =
    (frame : Frame) × IsValue frame × Spells bytes frame
    × (step config.gateway config.lifetime config.predefined seen local from frame now ≡ plan)
IsPlanOf config seen local Clock now plan =
    tick config.gateway config.lifetime config.advertise config.field config.predefined seen local
    now ≡ plan

-- the bytes of a datagram are no frame, and this is their first fault; that memory ran out is no
-- such fault
abbrev pub IsNoFrame : Occasion → FrameFault → Type 0
IsNoFrame (Datagram from bytes) fault = IsFirstFault bytes fault × (fault ≢ frame_faults.Memory)
IsNoFrame Clock fault = ⊥
