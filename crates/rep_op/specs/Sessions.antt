-- The spelling of a session and of a change as octets. Numbers have the most significant octet
-- first.
use Rattle.std.specs.Prelude.{ℕ, Bool, true, false, List, [], ◌∷◌, ◌++◌, length, Option, Some, None}
use Rattle.std.specs.List.{flat_map}
use Rattle.byteorder.specs.Endian.{big_bytes}
use Rattle.sn_session.specs.declared.presence.Presence.{Presence}
use Rattle.sn_session.specs.declared.presence.Presence.TheVariants as presences
use Rattle.sn_session.specs.declared.outbound.Phase.{Phase}
use Rattle.sn_session.specs.declared.outbound.Phase.TheVariants as phases
use Rattle.sn_session.specs.declared.session.Session.{Session}
use Rattle.sn_tables.specs.declared.topics.TopicEntry.{TopicEntry}
use Rattle.sn_tables.specs.declared.subscriptions.Subscription.{Subscription}
use Rattle.sn_session.specs.declared.will.Will.{Will}
use Rattle.sn_session.specs.declared.will.WillTopic.{WillTopic}
use Rattle.sn_session.specs.declared.outbound.Outbound.{Outbound}
use Rattle.sn_session.specs.declared.change.SessionOp.{SessionOp}
use Rattle.sn_session.specs.declared.change.SessionOp.TheVariants.{Take, Presence as SetPresence, Register, Subscribe, Unsubscribe, WillTopic as SetWillTopic, WillMsg, Received, Released, Outbound as SetOutbound}

-- a text: two octets of length, and its octets
abbrev pub text_octets : List ℕ → List ℕ
text_octets text = big_bytes 2 (length text) ++ text

-- the octet of a flag: 0 for no, 1 for yes
abbrev pub flag_octet : Bool → ℕ
flag_octet false = 0
flag_octet true = 1

-- the octet of a presence
abbrev pub presence_octet : Presence → ℕ
presence_octet presences.Active = 0
presence_octet presences.Asleep = 1
presence_octet presences.Awake = 2
presence_octet presences.Disconnected = 3
presence_octet presences.Lost = 4

-- the octet of an exchange's phase
abbrev pub phase_octet : Phase → ℕ
phase_octet phases.Registering = 0
phase_octet phases.Published = 1
phase_octet phases.Released = 2

-- whether something is there, and what
abbrev pub option_octets : {X : Type 0} → (X → List ℕ) → Option X → List ℕ
option_octets octets None = 0 ∷ []
option_octets octets (Some x) = 1 ∷ octets x

-- how many there are, and each
abbrev pub table_octets : {X : Type 0} → (X → List ℕ) → List X → List ℕ
table_octets octets xs = big_bytes 2 (length xs) ++ flat_map octets xs

-- a topic id: id, whether it is known, name
abbrev pub topic_octets : TopicEntry → List ℕ
topic_octets entry = big_bytes 2 entry.id ++ flag_octet entry.known ∷ text_octets entry.name

-- a subscription: filter, quality of service
abbrev pub subscription_octets : Subscription → List ℕ
subscription_octets subscription = text_octets subscription.filter ++ subscription.qos ∷ []

-- a will's quality of service, retain and topic
abbrev pub will_topic_octets : WillTopic → List ℕ
will_topic_octets asked = asked.qos ∷ flag_octet asked.retain ∷ text_octets asked.topic

-- a will's quality of service, retain, topic and message
abbrev pub session_will_octets : Will → List ℕ
session_will_octets will =
    (will.qos ∷ flag_octet will.retain ∷ text_octets will.topic) ++ text_octets will.message

-- an exchange: origin, sequence number, message id, phase
abbrev pub exchange_octets : Outbound → List ℕ
exchange_octets exchange =
    (exchange.origin ∷ big_bytes 8 exchange.seq) ++ big_bytes 2 exchange.msg_id
    ++ phase_octet exchange.phase ∷ []

-- a session: presence, clean, duration, next message id, topic ids, subscriptions, will, received
-- message ids, exchange
abbrev pub session_octets : Session → List ℕ
session_octets session =
    (presence_octet session.presence ∷ flag_octet session.clean ∷ [])
    ++ big_bytes 2 session.duration ++ big_bytes 2 session.next_id
    ++ table_octets topic_octets session.topics
    ++ table_octets subscription_octets session.subscriptions
    ++ option_octets session_will_octets session.will ++ table_octets (big_bytes 2) session.received
    ++ option_octets exchange_octets session.outbound

-- a change of a session: its tag and its fields
abbrev pub change_octets : SessionOp → List ℕ
change_octets (Take session) = 0 ∷ session_octets session
change_octets (SetPresence presence duration) = 1 ∷ presence_octet presence ∷ big_bytes 2 duration
change_octets (Register id name known) = 2 ∷ big_bytes 2 id ++ flag_octet known ∷ text_octets name
change_octets (Subscribe filter qos) = 3 ∷ text_octets filter ++ qos ∷ []
change_octets (Unsubscribe filter) = 4 ∷ text_octets filter
change_octets (SetWillTopic asked) = 5 ∷ option_octets will_topic_octets asked
change_octets (WillMsg message) = 6 ∷ text_octets message
change_octets (Received id) = 7 ∷ big_bytes 2 id
change_octets (Released id) = 8 ∷ big_bytes 2 id
change_octets (SetOutbound exchange next_id) =
    9 ∷ big_bytes 2 next_id ++ option_octets exchange_octets exchange
