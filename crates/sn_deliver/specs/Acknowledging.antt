-- The rows of PUBACK, PUBREC, PUBCOMP and REGACK of a client (MQTT-SN 1.2 sections 6.5, 6.6 and
-- 6.10).
use Rattle.std.specs.Prelude.{ℕ, ◌==◌, Bool, true, false, ◌&&◌, if◌then◌else◌, List, [], Option, Some, None}
use Rattle.sn_topic.specs.Table.{Entries}
use Rattle.sn_session.specs.declared.outbound.Outbound.{Outbound as Exchange}
use Rattle.sn_session.specs.declared.outbound.Phase.{Phase}
use Rattle.sn_session.specs.declared.outbound.Phase.TheVariants.{Registering, Published, Released}
use Rattle.sn_session.specs.declared.session.Session.{Session}
use Rattle.sn_tables.specs.declared.topics.TopicEntry.{TopicEntry}
use Rattle.sn_session.specs.declared.change.SessionOp.TheVariants.{Register, Outbound}
use Rattle.sn_tables.specs.Topics.{topic_named}
use Rattle.sn_frame.specs.declared.flags.TopicIdType.{TopicIdType}
use Rattle.sn_frame.specs.declared.flags.TopicIdType.TheVariants as kinds
use Rattle.sn_frame.specs.declared.frame.Frame.{Frame}
use Rattle.sn_frame.specs.declared.frame.Frame.TheVariants as frames
use Rattle.rep_op.specs.declared.op.Put.{Put}
use Rattle.rep_op.specs.Orders.{name_of}
use Rattle.sn_local.specs.declared.local.LocalChange.TheVariants.{Resent}
use Rattle.sn_plan.specs.Drafts.{Drafted, nothing, changed, acked, sent, moved}
use Rattle.sn_exchange.specs.declared.form.Form.{Form}
use Rattle.sn_exchange.specs.declared.peer.Peer.{Peer}
use Rattle.sn_exchange.specs.Forms.{form_again}
use Rattle.sn_exchange.specs.Exchanges.{put_named, message_of, open_exchange}

-- whether two phases of an exchange are the same
abbrev pub same_phase : Phase → Phase → Bool
same_phase Registering Registering = true
same_phase Published Published = true
same_phase Released Released = true
same_phase phase other = false

-- the exchange, if it is in this phase and has this message id
abbrev pub if_awaits : Phase → ℕ → Option Exchange → Option Exchange
if_awaits phase msg_id None = None
if_awaits phase msg_id (Some x) =
    if same_phase x.phase phase && (x.msg_id == msg_id) then Some x else None

-- the open exchange, if it is in this phase and has this message id
abbrev pub awaiting : Session → List Put → Phase → ℕ → Option Exchange
awaiting s pending phase msg_id = if_awaits phase msg_id (open_exchange s [] pending)

-- the message of an exchange, if it still waits
abbrev pub put_of_exchange : List Put → Option Exchange → Option Put
put_of_exchange pending None = None
put_of_exchange pending (Some x) = put_named (message_of x) pending

-- the message of the open exchange, if that is in this phase and has this message id
abbrev pub put_awaiting : Session → List Put → Phase → ℕ → Option Put
put_awaiting s pending phase msg_id = put_of_exchange pending (awaiting s pending phase msg_id)

-- and then the exchange is over, and the next message id stays
abbrev pub over : Session → Drafted → Drafted
over s d = changed (Outbound None s.next_id) d

-- the message is done with
abbrev pub done : Session → Put → Drafted
done s put = over s (acked (name_of put) nothing)

-- the client now knows this id for the name, or no longer does
abbrev pub id_told : TopicEntry → Bool → Drafted → Drafted
id_told entry known d = changed (Register entry.id entry.name known) d

-- the entry, if its topic is sent by an id of the session
abbrev pub entry_by_kind : Option TopicEntry → TopicIdType → Option TopicEntry
entry_by_kind entry kinds.Normal = entry
entry_by_kind entry kind = None

-- the entry, if the topic's form is an id of the session
abbrev pub entry_if_normal : Option TopicEntry → Option Form → Option TopicEntry
entry_if_normal entry None = None
entry_if_normal entry (Some form) = entry_by_kind entry form.kind

-- the entry of a topic that is published under its id
abbrev pub entry_published : Entries → Session → List ℕ → Option TopicEntry
entry_published predefined s name =
    entry_if_normal (topic_named name s.topics) (form_again predefined s name)

-- the client does not know the id: it is forgotten, and the message goes on waiting; by another
-- form the message is done with
abbrev pub forgotten : Session → Put → Option TopicEntry → Drafted
forgotten s put None = done s put
forgotten s put (Some entry) = over s (id_told entry false nothing)

-- PUBACK for this message: code 0 accepts it; 1 is congestion, and it waits; 2, invalid topic id,
-- forgets the id; other codes refuse it
abbrev pub puback_put : Entries → Session → ℕ → Put → Drafted
puback_put predefined s code put =
    if code == 0 then (if put.qos == 1 then done s put else nothing)
    else (if code == 1 then nothing
    else (if code == 2 then forgotten s put (entry_published predefined s put.topic)
    else done s put))

-- PUBACK with this code for the message; nothing if nothing waits for it
abbrev pub puback_of : Entries → Session → ℕ → Option Put → Drafted
puback_of predefined s code None = nothing
puback_of predefined s code (Some put) = puback_put predefined s code put

-- the draft of PUBACK (6.6 and 6.10)
abbrev pub puback : Entries → Session → List Put → ℕ → ℕ → Drafted
puback predefined s pending msg_id code =
    puback_of predefined s code (put_awaiting s pending Published msg_id)

-- the answer to PUBREC, which is a frame of the open exchange
abbrev pub pubrel_sent : Peer → ℕ → Drafted → Drafted
pubrel_sent peer msg_id d =
    moved (Resent peer.client peer.moment) (sent peer.address (frames.PubRel msg_id) d)

-- the message is with the client, and the exchange waits for PUBCOMP
abbrev pub released : Session → Exchange → Drafted
released s x =
    changed (Outbound (Some (record x { phase = Released })) s.next_id)
    (acked (message_of x) nothing)

-- a message at quality of service 2
abbrev pub is_at_two : Option Put → Bool
is_at_two None = false
is_at_two (Some put) = put.qos == 2

-- the exchange of a message at quality of service 2, if it waits for this PUBREC
abbrev pub awaiting_pubrec : Session → List Put → ℕ → Option Exchange
awaiting_pubrec s pending msg_id =
    if is_at_two (put_awaiting s pending Published msg_id) then awaiting s pending Published msg_id
    else None

-- PUBREL; only if the exchange waits for this PUBCOMP does it count as a frame sent again
abbrev pub pubrec_again : Peer → ℕ → Option Exchange → Drafted
pubrec_again peer msg_id None = sent peer.address (frames.PubRel msg_id) nothing
pubrec_again peer msg_id (Some x) = pubrel_sent peer msg_id nothing

-- PUBREC: an exchange that waits for it goes on to wait for PUBCOMP; PUBREL is sent in any case
abbrev pub pubrec_of : Peer → Session → List Put → ℕ → Option Exchange → Drafted
pubrec_of peer s pending msg_id None = pubrec_again peer msg_id (awaiting s pending Released msg_id)
pubrec_of peer s pending msg_id (Some x) = pubrel_sent peer msg_id (released s x)

-- PUBREC; PUBREL is always the answer
abbrev pub pubrec : Peer → Session → List Put → ℕ → Drafted
pubrec peer s pending msg_id = pubrec_of peer s pending msg_id (awaiting_pubrec s pending msg_id)

-- PUBCOMP: the exchange is over, if one waits for this
abbrev pub pubcomp_of : Session → Option Exchange → Drafted
pubcomp_of s None = nothing
pubcomp_of s (Some x) = over s nothing

-- the draft of PUBCOMP (6.6 and 6.10)
abbrev pub pubcomp : Session → List Put → ℕ → Drafted
pubcomp s pending msg_id = pubcomp_of s (awaiting s pending Released msg_id)

-- the client knows the id of the topic from now on
abbrev pub id_known : Session → Option TopicEntry → Drafted
id_known s None = nothing
id_known s (Some entry) = over s (id_told entry true nothing)

-- REGACK for this message: code 0 accepts the id; 1 is congestion, and nothing is done; other codes
-- refuse it
abbrev pub regack_put : Session → ℕ → Put → Drafted
regack_put s code put =
    if code == 0 then id_known s (topic_named put.topic s.topics)
    else (if code == 1 then nothing else done s put)

-- REGACK with this code for the message; nothing if nothing waits for it
abbrev pub regack_of : Session → ℕ → Option Put → Drafted
regack_of s code None = nothing
regack_of s code (Some put) = regack_put s code put

-- REGACK; the topic is that of the message that the exchange is about
abbrev pub regack : Session → List Put → ℕ → ℕ → Drafted
regack s pending msg_id code = regack_of s code (put_awaiting s pending Registering msg_id)

-- an acknowledgement of a connected client; what nothing waits for does nothing
abbrev pub acknowledge : Entries → Peer → Session → List Put → Frame → Drafted
acknowledge predefined peer s pending (frames.PubAck topic_id msg_id code) =
    puback predefined s pending msg_id code
acknowledge predefined peer s pending (frames.PubRec msg_id) = pubrec peer s pending msg_id
acknowledge predefined peer s pending (frames.PubComp msg_id) = pubcomp s pending msg_id
acknowledge predefined peer s pending (frames.RegAck topic_id msg_id code) =
    regack s pending msg_id code
acknowledge predefined peer s pending frame = nothing
