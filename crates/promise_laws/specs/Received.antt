-- Where the message ids come from that a session has received (MQTT-SN 1.2 section 6.6).
use Rattle.std.specs.Prelude.{◌≡◌, ℕ, false, List, take, Some, slice_get}
use Rattle.sn_tables.specs.Received.{is_received}
use Rattle.sn_frame.specs.declared.flags.Flags.{Flags}
use Rattle.sn_frame.specs.declared.flags.Qos.TheVariants.{Two}
use Rattle.sn_frame.specs.declared.frame.Frame.TheVariants as frames
use Rattle.sn_frame.specs.Bodies.{IsValue}
use Rattle.sn_frame.specs.FlagBits.{qos_of}
use Rattle.sn_frame.specs.Grammar.{Spells}
use Rattle.sn_local.specs.declared.config.Addr.{Addr}
use Rattle.sn_local.specs.Bindings.{client_at}
use Rattle.sn_local.specs.Seen.{seen_of}
use Rattle.sn_plan.specs.declared.plan.Plan.{Plan}
use Rattle.sn_plan.specs.Bound.{session_of}
use Rattle.sn_plan.specs.Own.{new_messages}
use Rattle.put_laws.specs.Puts.{IsReplyTo, IsPublished}
use Rattle.gw_event.specs.Occasions.{Datagram}
use Rattle.gw_event.specs.Gateways.{Gateway}
use Rattle.gw_event.specs.Event.{IsPlan}
use Rattle.gw_world.specs.declared.event.Event.{Event}
use Rattle.gw_world.specs.declared.event.Answer.{Answer}
use Rattle.gw_world.specs.Field.{Field, Run}
use Rattle.promise_laws.specs.Stepping.{IsStep}

-- The datagram from the address is a PUBLISH of the client at quality of service 2, with this
-- message id, which its session has not received. The plan accepts it: it makes a message for each
-- recipient, and answers PUBREC.
pub record AcceptsPublish (gateway : Gateway) (a : Addr) (octets c : List ℕ) (id : ℕ)
    (plan : Plan) : Type 0 where
  pub flags : Flags
  pub topic : ℕ
  pub body : List ℕ
  pub value : IsValue (frames.Publish flags topic id body)
  pub spelled : Spells octets (frames.Publish flags topic id body)
  pub at_two : qos_of flags.bits ≡ Two
  pub bound : client_at a gateway.local.bindings ≡ Some c
  pub fresh : is_received id (session_of (seen_of gateway.taken) c).received ≡ false
  pub published : IsPublished gateway.config.predefined (seen_of gateway.taken) gateway.local a
      flags.bits topic 2 body (new_messages plan.ops)
  pub answered : IsReplyTo a (frames.PubRec id) plan.sends

-- In this field the event is a datagram whose step accepts a PUBLISH of the client with this
-- message id. It ends with the datagrams of its plan; or the disk failed, and what was refused is
-- read back later.
pub record Accepts (field : Field) (event : Event) (answer : Answer) (c : List ℕ)
    (id : ℕ) : Type 0 where
  pub gateway : Gateway
  pub a : Addr
  pub octets : List ℕ
  pub moment : ℕ
  pub plan : Plan
  pub comes : IsStep field event answer gateway (Datagram a octets) moment plan.sends
  pub planned : IsPlan gateway (Datagram a octets) moment (Some plan)
  pub accepts : AcceptsPublish gateway a octets c id plan

-- In a run from the field `start` the event after the first k accepts a PUBLISH of the client with
-- this message id.
pub record IsAcceptedBy (start : Field) (events : List Event) (answers : List Answer) (c : List ℕ)
    (id : ℕ) : Type 0 where
  pub k : ℕ
  pub field : Field
  pub before : Run start (take k events) (take k answers) field
  pub event : Event
  pub event_is : slice_get events k ≡ Some event
  pub answer : Answer
  pub answer_is : slice_get answers k ≡ Some answer
  pub step : Accepts field event answer c id
