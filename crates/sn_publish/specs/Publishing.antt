-- The rows of PUBLISH and PUBREL from a client (MQTT-SN 1.2 sections 6.6, 6.8 and 6.10).
use Rattle.std.specs.Prelude.{ℕ, Bool, ◌/◌, ◌%◌, if◌then◌else◌, List, [], ◌∷◌, Option, Some, None}
use Rattle.std.specs.Option.{option_map}
use Rattle.sn_topic.specs.Table.{Entries, name_of_id}
use Rattle.sn_topic.specs.Topics.{name_asked}
use Rattle.sn_session.specs.declared.session.Session.{Session}
use Rattle.sn_tables.specs.declared.topics.TopicEntry.{TopicEntry}
use Rattle.sn_session.specs.declared.change.SessionOp.{SessionOp}
use Rattle.sn_session.specs.declared.change.SessionOp.TheVariants.{Received, Released}
use Rattle.sn_session.specs.Session.{empty_session}
use Rattle.sn_tables.specs.Topics.{topic_of}
use Rattle.sn_tables.specs.Received.{is_received, id_has_no_room}
use Rattle.sn_frame.specs.declared.flags.Qos.{Qos}
use Rattle.sn_frame.specs.declared.flags.Qos.TheVariants as levels
use Rattle.sn_frame.specs.declared.flags.TopicIdType.{TopicIdType}
use Rattle.sn_frame.specs.declared.flags.TopicIdType.TheVariants as kinds
use Rattle.sn_frame.specs.declared.frame.Frame.TheVariants as frames
use Rattle.sn_frame.specs.FlagBits.{qos_of, kind_of}
use Rattle.sn_session.specs.Messages.{is_too_long}
use Rattle.sn_local.specs.declared.config.Addr.{Addr}
use Rattle.sn_plan.specs.Drafts.{Drafted, nothing, changed, changed_if, put_all, retain_if, sent}
use Rattle.sn_plan.specs.Asking.{retain_asked}
use Rattle.sn_local.specs.Seen.{Seen}
use Rattle.sn_publish.specs.declared.meaning.Meant.{Meant}
use Rattle.sn_publish.specs.declared.meaning.Meant.TheVariants.{Topic, Refused}
use Rattle.sn_publish.specs.Recipients.{puts_for}
use Rattle.sn_publish.specs.Retaining.{retained_of}

-- the topic of this name; code 2, invalid topic id, if there is none
abbrev pub topic_or_refused : Option (List ℕ) → Meant
topic_or_refused None = Refused 2
topic_or_refused (Some name) = Topic name

-- the name in the two octets of a topic field
abbrev pub short_name : ℕ → List ℕ
short_name topic = topic / 256 ∷ topic % 256 ∷ []

-- the topic name of an entry
abbrev pub entry_name : TopicEntry → List ℕ
entry_name entry = entry.name

-- The topic that a topic field of this type means. A normal id is one of the session, whether the
-- client knows it or not. The others are predefined ids and short names. Code 3, not supported, if
-- the type has no meaning.
abbrev pub topic_meant : Entries → Session → TopicIdType → ℕ → Meant
topic_meant predefined s kinds.Normal topic =
    topic_or_refused (option_map entry_name (topic_of topic s.topics))
topic_meant predefined s kinds.Predefined topic = topic_or_refused (name_of_id topic predefined)
topic_meant predefined s kinds.Short topic = topic_or_refused (name_asked (short_name topic))
topic_meant predefined s kinds.Reserved topic = Refused 3

-- the topic of a PUBLISH; code 3, not supported, if the message has more than 4,096 octets
abbrev pub within_limit : List ℕ → Meant → Meant
within_limit body (Refused code) = Refused code
within_limit body (Topic name) = if is_too_long body then Refused 3 else Topic name

-- the topic that a PUBLISH is about, or the code by which it is refused
abbrev pub publication_meant : Entries → Session → ℕ → ℕ → List ℕ → Meant
publication_meant predefined s bits topic body =
    within_limit body (topic_meant predefined s (kind_of bits) topic)

-- a message for each recipient; and it is retained, if that is asked for
abbrev pub posted : Seen → Bool → List ℕ → ℕ → List ℕ → Drafted
posted seen asked name qos body =
    retain_if (retained_of seen asked name qos body)
    (put_all (puts_for seen name qos body) nothing)

-- at most once: the recipients get it, and there is no answer
abbrev pub publish_at_0 : Seen → Bool → List ℕ → List ℕ → Drafted
publish_at_0 seen asked name body = posted seen asked name 0 body

-- at least once: the recipients get it, and PUBACK says so
abbrev pub publish_at_1 : Seen → Bool → Addr → ℕ → ℕ → List ℕ → List ℕ → Drafted
publish_at_1 seen asked a topic msg_id body name =
    sent a (frames.PubAck topic msg_id 0) (posted seen asked name 1 body)

-- Exactly once. If the message id was received and is not released yet, the recipients have the
-- message, and PUBREC says so. Code 1, congestion, if there are 256 message ids.
abbrev pub publish_at_2 : Seen → Bool → Addr → Session → ℕ → ℕ → List ℕ → List ℕ → Drafted
publish_at_2 seen asked a s topic msg_id body name =
    if is_received msg_id s.received then sent a (frames.PubRec msg_id) nothing
    else (if id_has_no_room msg_id s.received then sent a (frames.PubAck topic msg_id 1) nothing
    else sent a (frames.PubRec msg_id)
    (changed (Received msg_id) (posted seen asked name 2 body)))

-- a PUBLISH of this topic by its quality of service; -1 counts as 0
abbrev pub publish_at : Seen → Bool → Addr → Session → ℕ → ℕ → List ℕ → List ℕ → Qos → Drafted
publish_at seen asked a s topic msg_id body name levels.Zero = publish_at_0 seen asked name body
publish_at seen asked a s topic msg_id body name levels.One =
    publish_at_1 seen asked a topic msg_id body name
publish_at seen asked a s topic msg_id body name levels.Two =
    publish_at_2 seen asked a s topic msg_id body name
publish_at seen asked a s topic msg_id body name levels.MinusOne = publish_at_0 seen asked name body

-- a refusal is a PUBACK with the code, at every quality of service
abbrev pub publish_meant : Seen → Bool → Addr → Session → ℕ → ℕ → List ℕ → Qos → Meant → Drafted
publish_meant seen asked a s topic msg_id body qos (Refused code) =
    sent a (frames.PubAck topic msg_id code) nothing
publish_meant seen asked a s topic msg_id body qos (Topic name) =
    publish_at seen asked a s topic msg_id body name qos

-- the draft of PUBLISH of a connected client (6.6)
abbrev pub publish : Entries → Seen → Addr → Session → ℕ → ℕ → ℕ → List ℕ → Drafted
publish predefined seen a s bits topic msg_id body =
    publish_meant seen (retain_asked bits) a s topic msg_id body (qos_of bits)
    (publication_meant predefined s bits topic body)

-- the recipients get it, at most once; nothing is done if the PUBLISH is refused
abbrev pub spread_meant : Seen → Bool → List ℕ → Meant → Drafted
spread_meant seen asked body (Refused code) = nothing
spread_meant seen asked body (Topic name) = publish_at_0 seen asked name body

-- PUBLISH without a connection, by a predefined id or a short name: the recipients get it, at most
-- once, and nothing is answered
abbrev pub publish_unconnected : Entries → Seen → ℕ → ℕ → List ℕ → Drafted
publish_unconnected predefined seen bits topic body =
    spread_meant seen (retain_asked bits) body
    (publication_meant predefined empty_session bits topic body)

-- the change of the session, if the message id was received
abbrev pub release : Session → ℕ → Option SessionOp
release s msg_id = if is_received msg_id s.received then Some (Released msg_id) else None

-- the draft of PUBREL; PUBCOMP is always the answer (6.6)
abbrev pub pubrel : Addr → Session → ℕ → Drafted
pubrel a s msg_id = sent a (frames.PubComp msg_id) (changed_if (release s msg_id) nothing)
