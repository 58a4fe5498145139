-- Delivery: a client is sent the messages that wait for it (MQTT-SN 1.2 sections 6.6, 6.10 and
-- 6.14).
use Rattle.std.specs.Prelude.{ℕ, ◌+◌, ◌==◌, Bool, true, false, ◌&&◌, if◌then◌else◌, is_none, List, [], ◌∷◌, Option, Some, None}
use Rattle.std.specs.Option.{option_map}
use Rattle.sn_topic.specs.Table.{Entries}
use Rattle.sn_session.specs.declared.presence.Presence.TheVariants.{Asleep}
use Rattle.sn_session.specs.declared.outbound.Phase.{Phase}
use Rattle.sn_session.specs.declared.outbound.Phase.TheVariants.{Registering, Published}
use Rattle.sn_session.specs.declared.session.Session.{Session}
use Rattle.sn_tables.specs.declared.topics.TopicEntry.{TopicEntry}
use Rattle.sn_session.specs.declared.change.SessionOp.TheVariants.{Presence, Register, Outbound}
use Rattle.sn_tables.specs.Topics.{topic_named, free_id}
use Rattle.sn_frame.specs.declared.frame.Frame.{Frame}
use Rattle.sn_frame.specs.declared.frame.Frame.TheVariants as frames
use Rattle.rep_op.specs.declared.op.Put.{Put}
use Rattle.rep_op.specs.Orders.{name_of}
use Rattle.sn_local.specs.declared.local.LocalChange.TheVariants.{Sent}
use Rattle.sn_plan.specs.Drafts.{Drafted, changed, changed_if, acked, sent, moved, session_after}
use Rattle.sn_exchange.specs.declared.form.Form.{Form}
use Rattle.sn_exchange.specs.declared.peer.Peer.{Peer}
use Rattle.sn_exchange.specs.declared.delivery.ToldId.{ToldId}
use Rattle.sn_exchange.specs.Forms.{form_of, publication}
use Rattle.sn_exchange.specs.Exchanges.{left, open_exchange, is_served, is_awake}

-- the message id after one; after 65,535 comes 1
abbrev pub next_after : ℕ → ℕ
next_after id = if id == 65535 then 1 else id + 1

-- whether Delivery stops, and the draft
abbrev pub Stop : Type 0
Stop = Bool × Drafted

-- a new exchange for the message under the next message id, with its first frame
abbrev pub exchange_begun : Peer → Session → Put → Phase → Frame → Drafted → Drafted
exchange_begun peer s put phase frame d =
    moved (Sent peer.client peer.moment)
    (sent peer.address frame
    (changed (Outbound (Some
    (record {
      origin = put.origin;
      seq = put.seq;
      msg_id = s.next_id;
      phase = phase;
    })) (next_after s.next_id)) d))

-- a new id of the name, which the client does not know yet
abbrev pub fresh_id : List ℕ → ℕ → ToldId
fresh_id name id = record { id = id; change = Some (Register id name false) }

-- the id of the name's entry, if it has one, else the free id, if there is one
abbrev pub entry_or_fresh : List ℕ → Option TopicEntry → Option ℕ → Option ToldId
entry_or_fresh name None free = option_map (fresh_id name) free
entry_or_fresh name (Some entry) free = Some (record { id = entry.id; change = None })

-- The id by which the client will know a name, and the change that the session needs for it. It is
-- that of the name's entry, or else the least free one, if there is one.
abbrev pub id_to_tell : Session → List ℕ → Option ToldId
id_to_tell s name = entry_or_fresh name (topic_named name s.topics) (free_id s.topics)

-- a message whose topic needs registering; if no id is free, it is acknowledged unsent
abbrev pub register_first : Peer → Session → Put → Option ToldId → Drafted → Stop
register_first peer s put None d = (false, acked (name_of put) d)
register_first peer s put (Some told) d = (
  true,
  exchange_begun peer s put Registering (frames.Register told.id s.next_id put.topic)
      (changed_if told.change d),
)

-- a message whose topic has a form: at quality of service 0 it is sent and done with, else an
-- exchange begins
abbrev pub publish_now : Peer → Session → Put → Form → Drafted → Stop
publish_now peer s put form d =
    if put.qos == 0
    then (false, acked (name_of put) (sent peer.address (publication false put 0 form) d))
    else (true, exchange_begun peer s put Published (publication false put s.next_id form) d)

-- a message by the form of its topic; without a form the topic is registered first
abbrev pub deliver_by : Peer → Session → Put → Option Form → Drafted → Stop
deliver_by peer s put None d = register_first peer s put (id_to_tell s put.topic) d
deliver_by peer s put (Some form) d = publish_now peer s put form d

-- One message. It is sent and done with, or an exchange for it begins; if no topic id is free, it
-- is done with unsent. Only an exchange stops Delivery.
abbrev pub deliver_one : Entries → Peer → Session → Put → Drafted → Stop
deliver_one predefined peer s put d = deliver_by peer s put (form_of predefined s put.topic) d

-- with nothing left a client that is Awake goes back to sleep
abbrev pub none_left : Peer → Session → Drafted → Drafted
none_left peer s d =
    if is_awake s.presence
    then sent peer.address frames.PingResp (changed (Presence Asleep s.duration) d) else d

-- and then more of the step, unless Delivery has stopped
abbrev pub and_then : (Drafted → Drafted) → Stop → Drafted
and_then more stop = if stop.0 then stop.1 else more stop.1

-- the first message that is left, and the next, until one of them stops Delivery
abbrev pub deliver : Entries → Peer → Session → List Put → Drafted → Drafted
deliver predefined peer s [] d = none_left peer s d
deliver predefined peer s (put ∷ rest) d =
    and_then (deliver predefined peer s rest) (deliver_one predefined peer s put d)

-- Delivery of the messages that are left of those that wait
abbrev pub deliver_left : Entries → Peer → Session → List Put → Drafted → Drafted
deliver_left predefined peer s pending d = deliver predefined peer s (left d.acks pending) d

-- Delivery, if the client is Active or Awake and has no open exchange
abbrev pub deliver_if : Entries → Peer → Session → List Put → Drafted → Drafted
deliver_if predefined peer s pending d =
    if is_served s.presence && is_none (open_exchange s d.acks pending)
    then deliver_left predefined peer s pending d else d

-- and then Delivery: by the session as the step so far has changed it, and the messages that waited
-- before the step
abbrev pub then_deliver : Entries → Peer → Session → List Put → Drafted → Drafted
then_deliver predefined peer s pending d = deliver_if predefined peer (session_after s d) pending d
