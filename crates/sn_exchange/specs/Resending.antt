-- Resend: the frame of the open exchange is sent again, under the same message id (MQTT-SN 1.2
-- section 6.13).
use Rattle.std.specs.Prelude.{ℕ, true, false, List, Option, Some, None}
use Rattle.sn_topic.specs.Table.{Entries}
use Rattle.sn_session.specs.declared.outbound.Outbound.{Outbound as Exchange}
use Rattle.sn_session.specs.declared.outbound.Phase.{Phase}
use Rattle.sn_session.specs.declared.outbound.Phase.TheVariants.{Registering, Published, Released}
use Rattle.sn_session.specs.declared.session.Session.{Session}
use Rattle.sn_tables.specs.declared.topics.TopicEntry.{TopicEntry}
use Rattle.sn_session.specs.declared.change.SessionOp.TheVariants.{Outbound}
use Rattle.sn_tables.specs.Topics.{topic_named}
use Rattle.sn_frame.specs.declared.frame.Frame.{Frame}
use Rattle.sn_frame.specs.declared.frame.Frame.TheVariants as frames
use Rattle.rep_op.specs.declared.op.Put.{Put}
use Rattle.sn_local.specs.declared.local.LocalChange.TheVariants.{Resent}
use Rattle.sn_plan.specs.Drafts.{Drafted, changed, sent, moved, session_after}
use Rattle.sn_exchange.specs.declared.form.Form.{Form}
use Rattle.sn_exchange.specs.declared.peer.Peer.{Peer}
use Rattle.sn_exchange.specs.Forms.{form_again, publication}
use Rattle.sn_exchange.specs.Exchanges.{put_left, message_of, open_exchange}
use Rattle.sn_exchange.specs.Delivery.{Stop, and_then, deliver_left, deliver_if}

-- a frame of the exchange, again
abbrev pub again : Peer → Frame → Drafted → Stop
again peer frame d = (true, moved (Resent peer.client peer.moment) (sent peer.address frame d))

-- the exchange ends, since there is no name left for its topic
abbrev pub given_up : Session → Drafted → Stop
given_up s d = (false, changed (Outbound None s.next_id) d)

-- REGISTER again by the topic's entry; without an entry the exchange ends
abbrev pub register_by : Peer → Session → Put → ℕ → Option TopicEntry → Drafted → Stop
register_by peer s put msg_id None d = given_up s d
register_by peer s put msg_id (Some entry) d =
    again peer (frames.Register entry.id msg_id put.topic) d

-- REGISTER, with the id of the entry
abbrev pub register_again : Peer → Session → ℕ → Option Put → Drafted → Stop
register_again peer s msg_id None d = given_up s d
register_again peer s msg_id (Some put) d =
    register_by peer s put msg_id (topic_named put.topic s.topics) d

-- PUBLISH again by the topic's form, with DUP; without a form the exchange ends
abbrev pub publish_by : Peer → Session → Put → ℕ → Option Form → Drafted → Stop
publish_by peer s put msg_id None d = given_up s d
publish_by peer s put msg_id (Some form) d = again peer (publication true put msg_id form) d

-- PUBLISH, with DUP
abbrev pub publish_again : Entries → Peer → Session → ℕ → Option Put → Drafted → Stop
publish_again predefined peer s msg_id None d = given_up s d
publish_again predefined peer s msg_id (Some put) d =
    publish_by peer s put msg_id (form_again predefined s put.topic) d

-- the frame of an exchange in this phase, again: REGISTER, PUBLISH or PUBREL
abbrev pub resend_in : Entries → Peer → Session → ℕ → Phase → Option Put → Drafted → Stop
resend_in predefined peer s msg_id Registering put d = register_again peer s msg_id put d
resend_in predefined peer s msg_id Published put d = publish_again predefined peer s msg_id put d
resend_in predefined peer s msg_id Released put d = again peer (frames.PubRel msg_id) d

-- Resend of an exchange; if its topic has neither form nor entry, the exchange ends and Delivery
-- follows
abbrev pub resend : Entries → Peer → Session → List Put → Exchange → Drafted → Drafted
resend predefined peer s pending x d =
    and_then (deliver_left predefined peer s pending)
    (resend_in predefined peer s x.msg_id x.phase (put_left d.acks pending (message_of x)) d)

-- Resend of the open exchange, or Delivery if there is none
abbrev pub resend_if : Entries → Peer → Session → List Put → Option Exchange → Drafted → Drafted
resend_if predefined peer s pending None d = deliver_if predefined peer s pending d
resend_if predefined peer s pending (Some x) d = resend predefined peer s pending x d

-- Resend if the session has an open exchange, else Delivery
abbrev pub resend_or_deliver : Entries → Peer → Session → List Put → Drafted → Drafted
resend_or_deliver predefined peer s pending d =
    resend_if predefined peer s pending (open_exchange s d.acks pending) d

-- and then Resend, if an exchange is open, else Delivery: by the session as the step so far has
-- changed it
abbrev pub then_resend : Entries → Peer → Session → List Put → Drafted → Drafted
then_resend predefined peer s pending d =
    resend_or_deliver predefined peer (session_after s d) pending d
