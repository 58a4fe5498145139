-- The row of REGISTER (MQTT-SN 1.2 section 6.5), and the topic id of a name.
use Rattle.std.specs.Prelude.{ℕ, true, if◌then◌else◌, List, Option, Some, None}
use Rattle.std.specs.Option.{option_map}
use Rattle.sn_topic.specs.Topics.{name_asked}
use Rattle.sn_session.specs.declared.session.Session.{Session}
use Rattle.sn_tables.specs.declared.topics.TopicEntry.{TopicEntry}
use Rattle.sn_session.specs.declared.change.SessionOp.TheVariants.{Register}
use Rattle.sn_tables.specs.Topics.{topic_named, free_id}
use Rattle.sn_frame.specs.declared.frame.Frame.TheVariants as frames
use Rattle.sn_local.specs.declared.config.Addr.{Addr}
use Rattle.sn_subscribe.specs.declared.registration.NamedId.{NamedId}
use Rattle.sn_plan.specs.Drafts.{Drafted, nothing, changed_if, sent}

-- the id of an entry of the name, which the client knows from now on
abbrev pub entry_id : List ℕ → TopicEntry → NamedId
entry_id name entry =
    record {
      id = entry.id;
      change = if entry.known then None else Some (Register entry.id name true);
    }

-- a new id of the name
abbrev pub new_id : List ℕ → ℕ → NamedId
new_id name id = record { id = id; change = Some (Register id name true) }

-- the id of the name's entry, if it has one, else the free id, if there is one
abbrev pub entry_or_free : List ℕ → Option TopicEntry → Option ℕ → Option NamedId
entry_or_free name None free = option_map (new_id name) free
entry_or_free name (Some entry) free = Some (entry_id name entry)

-- The id of a name, and the change that the session needs for it. It is that of the name's entry,
-- or else the least free one, if there is one.
abbrev pub id_for : Session → List ℕ → Option NamedId
id_for s name = entry_or_free name (topic_named name s.topics) (free_id s.topics)

-- the answer to REGISTER of a topic name; code 1, congestion, if no id is free
abbrev pub registered : Addr → ℕ → Option NamedId → Drafted
registered a msg_id None = sent a (frames.RegAck 0 msg_id 1) nothing
registered a msg_id (Some named) =
    sent a (frames.RegAck named.id msg_id 0) (changed_if named.change nothing)

-- REGISTER of a topic name; code 3, not supported, if the octets are none
abbrev pub register_name : Addr → Session → ℕ → Option (List ℕ) → Drafted
register_name a s msg_id None = sent a (frames.RegAck 0 msg_id 3) nothing
register_name a s msg_id (Some name) = registered a msg_id (id_for s name)

-- the draft of REGISTER; code 3, not supported, if the octets are no topic name (6.5)
abbrev pub register : Addr → Session → ℕ → List ℕ → Drafted
register a s msg_id name = register_name a s msg_id (name_asked name)
