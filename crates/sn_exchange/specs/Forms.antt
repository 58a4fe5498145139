-- How a topic is named in a PUBLISH (MQTT-SN 1.2 sections 5.3.11 and 5.3.12), and that PUBLISH
-- (5.4.12).
use Rattle.std.specs.Prelude.{ℕ, ◌+◌, ◌*◌, ◌==◌, Bool, if◌then◌else◌, List, [], ◌∷◌, Option, Some, None}
use Rattle.std.specs.Option.{option_map, option_or}
use Rattle.sn_topic.specs.Table.{Entries, ids_of, least}
use Rattle.sn_session.specs.declared.session.Session.{Session}
use Rattle.sn_tables.specs.declared.topics.TopicEntry.{TopicEntry}
use Rattle.sn_tables.specs.Topics.{topic_named}
use Rattle.sn_frame.specs.declared.flags.TopicIdType.TheVariants as kinds
use Rattle.sn_frame.specs.declared.frame.Frame.{Frame}
use Rattle.sn_frame.specs.declared.frame.Frame.TheVariants as frames
use Rattle.sn_frame.specs.FlagBits.{kind_bits}
use Rattle.rep_op.specs.declared.op.Put.{Put}
use Rattle.sn_exchange.specs.declared.form.Form.{Form}

-- by the id of this entry
abbrev pub by_entry : TopicEntry → Form
by_entry entry = record { kind = kinds.Normal; topic = entry.id }

-- by the id of the entry, if the client knows it
abbrev pub known_form : Option TopicEntry → Option Form
known_form None = None
known_form (Some entry) = if entry.known then Some (by_entry entry) else None

-- by the name itself, if it has two octets
abbrev pub short_name_form : List ℕ → Option Form
short_name_form (high ∷ low ∷ []) = Some (record { kind = kinds.Short; topic = high * 256 + low })
short_name_form name = None

-- by this predefined id
abbrev pub by_predefined : ℕ → Form
by_predefined id = record { kind = kinds.Predefined; topic = id }

-- by the least predefined id of the name, if there is one
abbrev pub predefined_form : Entries → List ℕ → Option Form
predefined_form predefined name = option_map by_predefined (least (ids_of name predefined))

-- How the client knows the topic: by the id of an entry, a short name, or a predefined id, the
-- first that there is. Without one the topic needs registering.
abbrev pub form_of : Entries → Session → List ℕ → Option Form
form_of predefined s name =
    option_or (known_form (topic_named name s.topics))
    (option_or (short_name_form name) (predefined_form predefined name))

-- how the client knows the topic once the PUBLISH was sent: also by the id of an entry that it may
-- have forgotten since
abbrev pub form_again : Entries → Session → List ℕ → Option Form
form_again predefined s name =
    option_or (form_of predefined s name) (option_map by_entry (topic_named name s.topics))

-- the bits of a quality of service of 0, 1 or 2
abbrev pub qos_bits : ℕ → ℕ
qos_bits qos = if qos == 0 then 0 else (if qos == 1 then 32 else 64)

-- the DUP bit: the message was sent before
abbrev pub dup_bit : Bool → ℕ
dup_bit again = if again then 128 else 0

-- the Retain bit: the client gets the message since it was retained
abbrev pub retain_bit : Bool → ℕ
retain_bit retain = if retain then 16 else 0

-- the first octet of a message's PUBLISH, with DUP if it is sent again
abbrev pub bits_of : Bool → Put → Form → ℕ
bits_of again put form =
    dup_bit again + qos_bits put.qos + retain_bit put.retain + kind_bits form.kind

-- the PUBLISH of a message, with DUP if it is sent again, and with Retain if it was retained
abbrev pub publication : Bool → Put → ℕ → Form → Frame
publication again put msg_id form =
    frames.Publish (record { bits = bits_of again put form }) form.topic msg_id put.body
