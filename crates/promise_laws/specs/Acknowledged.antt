-- Where the acknowledgements of a field come from.
use Rattle.std.specs.Prelude.{◌≡◌, ◌⊎◌, ℕ, true, List, take, Some, slice_get}
use Rattle.sn_frame.specs.declared.frame.Frame.{Frame as OfFrame}
use Rattle.sn_frame.specs.Bodies.{IsValue}
use Rattle.sn_frame.specs.Grammar.{Spells}
use Rattle.rep_op.specs.Sets.{is_acknowledged}
use Rattle.rep_ops.specs.Splitting.{all_of}
use Rattle.sn_local.specs.declared.config.Send.{Send}
use Rattle.sn_local.specs.Seen.{seen_of}
use Rattle.sn_plan.specs.declared.plan.Plan.{Plan}
use Rattle.put_laws.specs.Causes.{IsForCause, IsTimely}
use Rattle.gw_event.specs.Occasions.{Occasion, Datagram, Clock}
use Rattle.gw_event.specs.Gateways.{Gateway}
use Rattle.gw_event.specs.Event.{IsPlan}
use Rattle.gw_world.specs.declared.event.Event.{Event}
use Rattle.gw_world.specs.declared.event.Answer.{Answer}
use Rattle.gw_world.specs.Field.{Field, Run}
use Rattle.gw_world.specs.Whole.{listed}
use Rattle.promise_laws.specs.Stepping.{IsStep}

-- The field has the acknowledgement of the client's message of this name: a gateway has taken it,
-- or refused it when its disk failed, or the deltas of the list have it.
abbrev pub IsAcknowledgedIn : Field → List ℕ → ℕ × ℕ → Type 0
IsAcknowledgedIn field c name =
    ((j : ℕ) × (gateway : Gateway) × (slice_get field.gateways j ≡ Some gateway)
    × ((is_acknowledged c gateway.taken name ≡ true)
    ⊎ (is_acknowledged c (all_of gateway.refused) name ≡ true)))
    ⊎ (is_acknowledged c (listed field) name ≡ true)

-- The message of this name waits for the client at the gateway, and the occasion is a cause to
-- acknowledge it: the frame is, or Delivery is done with the message, or it has expired.
abbrev pub HasAckCause : Gateway → Occasion → ℕ → List Send → List ℕ → ℕ × ℕ → Type 0
HasAckCause gateway (Datagram from bytes) now sends c name =
    (frame : OfFrame) × IsValue frame × Spells bytes frame
    × IsForCause gateway.config.gateway gateway.config.predefined (seen_of gateway.taken)
    gateway.local from frame now sends c name
HasAckCause gateway Clock now sends c name =
    IsTimely gateway.config.gateway gateway.config.predefined (seen_of gateway.taken) gateway.local
    now sends c name

-- In this field the event is a step that acknowledges the message, for a cause. It ends with the
-- datagrams of its plan; or the disk failed, and what was refused is read back later.
pub record Acknowledges (field : Field) (event : Event) (answer : Answer) (c : List ℕ)
    (name : ℕ × ℕ) : Type 0 where
  pub gateway : Gateway
  pub occasion : Occasion
  pub moment : ℕ
  pub plan : Plan
  pub comes : IsStep field event answer gateway occasion moment plan.sends
  pub planned : IsPlan gateway occasion moment (Some plan)
  pub acknowledges : is_acknowledged c plan.ops name ≡ true
  pub cause : HasAckCause gateway occasion moment plan.sends c name

-- In a run from `start` the event after the first k is a step that acknowledges the message.
pub record IsWrittenBy (start : Field) (events : List Event) (answers : List Answer) (c : List ℕ)
    (name : ℕ × ℕ) : Type 0 where
  pub k : ℕ
  pub field : Field
  pub before : Run start (take k events) (take k answers) field
  pub event : Event
  pub event_is : slice_get events k ≡ Some event
  pub answer : Answer
  pub answer_is : slice_get answers k ≡ Some answer
  pub step : Acknowledges field event answer c name
