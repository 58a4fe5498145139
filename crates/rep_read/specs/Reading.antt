-- Reading an operation from left to right, up to the first fault. A reader gives a value and the
-- octets after it.
--
-- Numbers here are octets; "2 + n" is a size of two octets and so many octets after it. An
-- operation is its kind, 1, its client, 1 + n, or its topic, 2 + n, and by its kind:
--   1 a change     epoch 8, gateway 1, counter 1, tag 1, the fields of that tag
--   2 a message    origin 1, sequence number 8, topic 2 + n, quality of service 1, in version 2
--                  retained 1 and expires 8, message 2 + n
--   3 acknowledged origin 1, first 8, last 8
--   4 retained     in version 2: clock 8, gateway 1, quality of service 1, message 2 + n
-- The fields of a change, by its tag:
--   0 a session                     1 presence 1, duration 2     2 topic id 2, known 1, name 2 + n
--   3 filter 2 + n, quality 1       4 filter 2 + n               5 the topic of a will, or none
--   6 the message of a will 2 + n   7 and 8 message id 2         9 next message id 2, exchange
-- A session is presence 1, clean 1, duration 2, next message id 2, topic ids, subscriptions, will,
-- received message ids, exchange. A table is its count, 2, and its entries; what may be absent has
-- 0 or 1 in front. Sessions and Spelling of rep_op say what is read here: `topic_octets` what
-- `entry_at` reads, and `client`, `subscription`, `will_topic`, `will`, `exchange`, `session`,
-- `change` and `op`, each with `_octets`, what the same word with `_at` reads.
use Rattle.std.specs.Prelude.{Option, Some, None, ◌≡◌, ℕ, zero, suc, ◌==◌, Bool, false, ◌&&◌, not, if◌then◌else◌, nat_le, nat_lt, List, [], ◌∷◌, ◌++◌, length, take, drop, Result, Ok, Err}
use Rattle.std.specs.Int.{Width, w16, w64, byte_len, from_be_bytes}
use Rattle.std.specs.declared.cmp.Ordering.{Ordering}
use Rattle.std.specs.Ordering.{nat_cmp}
use Rattle.sn_topic.specs.declared.level.TheConstants.{MAX_TOPIC}
use Rattle.sn_topic.specs.Levels.{has_wildcard, levels, wildcards_stand_alone}
use Rattle.sn_session.specs.declared.presence.Presence.{Presence}
use Rattle.sn_session.specs.declared.presence.Presence.TheVariants as presences
use Rattle.sn_session.specs.declared.outbound.Phase.{Phase}
use Rattle.sn_session.specs.declared.outbound.Phase.TheVariants as phases
use Rattle.sn_session.specs.declared.outbound.Outbound.{Outbound}
use Rattle.sn_session.specs.declared.session.Session.{Session}
use Rattle.sn_tables.specs.declared.topics.TopicEntry.{TopicEntry}
use Rattle.sn_tables.specs.declared.subscriptions.Subscription.{Subscription}
use Rattle.sn_session.specs.declared.will.Will.{Will}
use Rattle.sn_session.specs.declared.will.WillTopic.{WillTopic}
use Rattle.sn_tables.specs.declared.table.TheConstants.{MAX_ENTRIES}
use Rattle.sn_tables.specs.Tables.{is_ascending}
use Rattle.sn_tables.specs.Topics.{topic_cmp}
use Rattle.sn_tables.specs.Subscriptions.{subscription_cmp}
use Rattle.sn_session.specs.declared.change.SessionOp.{SessionOp}
use Rattle.sn_session.specs.declared.change.SessionOp.TheVariants.{Take, Presence as SetPresence, Register, Subscribe, Unsubscribe, WillTopic as SetWillTopic, WillMsg, Received, Released, Outbound as SetOutbound}
use Rattle.rep_op.specs.declared.fault.OpsFault.{OpsFault}
use Rattle.rep_op.specs.declared.fault.OpsFault.TheVariants as faults
use Rattle.rep_op.specs.declared.version.Version.{Version}
use Rattle.rep_op.specs.declared.version.Version.TheVariants.{One, Two}
use Rattle.octets.specs.declared.client_id.TheConstants.{MAX_CLIENT_ID}
use Rattle.sn_session.specs.declared.message.TheConstants.{MAX_MESSAGE}
use Rattle.rep_op.specs.declared.op.Op.{Op}
use Rattle.rep_op.specs.declared.op.Op.TheVariants.{Session as OfSession, Put as OfPut, Ack, Retain as OfRetain}
use Rattle.sn_tables.specs.Levels.{is_qos}
use Rattle.sn_topic.specs.Table.{is_topic_id}

-- ---- readers

-- reads a value from the front of octets: gives it with the octets after it, or the first fault
abbrev pub Reader : Type 0 → Type 0
Reader A = List ℕ → Result (A × List ℕ) OpsFault

-- go on with what was read, or end with the fault
infixl 10 ◌>>=◌
abbrev pub ◌>>=◌ : {A B : Type 0} → Result A OpsFault → (A → Result B OpsFault) → Result B OpsFault
(Ok x) >>= f = f x
(Err e) >>= f = Err e

-- one value, and after it another
abbrev pub both : {A B : Type 0} → Reader A → Reader B → Reader (A × B)
both first second bytes = first bytes >>= λ x. second x.1 >>= λ y. Ok ((x.0, y.0), y.1)

-- one value, and after it another whose form depends on the first
abbrev pub by_first : {A B : Type 0} → Reader A → (A → Reader B) → Reader (A × B)
by_first first second bytes = first bytes >>= λ x. second x.0 x.1 >>= λ y. Ok ((x.0, y.0), y.1)

-- a value made of what was read
abbrev pub made_from : {A B : Type 0} → (A → B) → Reader A → Reader B
made_from f read bytes = read bytes >>= λ x. Ok (f x.0, x.1)

-- a value that is in range, looked at when it is whole
abbrev pub ranged : {A : Type 0} → (A → Bool) → Reader A → Reader A
ranged test read bytes = read bytes >>= λ x. if test x.0 then Ok x else Err faults.Kind

-- ---- octets, numbers and texts

-- the first octet; Truncated if there is none
abbrev pub octet_at : Reader ℕ
octet_at [] = Err faults.Truncated
octet_at (octet ∷ rest) = Ok (octet, rest)

-- so many octets
abbrev pub octets_at : ℕ → Reader (List ℕ)
octets_at n bytes =
    if nat_lt (length bytes) n then Err faults.Truncated else Ok (take n bytes, drop n bytes)

-- a number, the most significant octet first
abbrev pub number_at : Width → Reader ℕ
number_at w bytes =
    if nat_lt (length bytes) (byte_len w) then Err faults.Truncated
    else Ok (from_be_bytes w (take (byte_len w) bytes), drop (byte_len w) bytes)

-- a size that is in range, and so many octets
abbrev pub sized_at : (ℕ → Bool) → Reader ℕ → Reader (List ℕ)
sized_at test size bytes = ranged test size bytes >>= λ x. octets_at x.0 x.1

-- origins, gateways, epochs, sequence numbers and next message ids begin at 1
abbrev pub is_positive : ℕ → Bool
is_positive n = nat_le 1 n

-- a client: a size of one octet, 1 to 23, and its octets
unfoldable pub client_id_at : Reader (List ℕ)
client_id_at = sized_at (λ n. nat_le 1 n && nat_le n MAX_CLIENT_ID) octet_at

-- a topic name: a size of two octets, 1 to 256, and its octets, none of them a wildcard
unfoldable pub topic_at : Reader (List ℕ)
topic_at =
    ranged (λ name. not (has_wildcard name))
    (sized_at (λ n. nat_le 1 n && nat_le n MAX_TOPIC) (number_at w16))

-- a message: a size of two octets, at most 4,096, and its octets
unfoldable pub body_at : Reader (List ℕ)
body_at = sized_at (λ n. nat_le n MAX_MESSAGE) (number_at w16)

-- ---- sessions

-- a flag: one octet, 0 for no or 1 for yes
unfoldable pub flag_at : Reader Bool
flag_at = made_from (λ n. n == 1) (ranged (λ n. nat_le n 1) octet_at)

-- the presence that an octet stands for: 0 Active, 1 Asleep, 2 Awake, 3 Disconnected, 4 Lost
abbrev pub presence_of : ℕ → Presence
presence_of n =
    if n == 0 then presences.Active
    else (if n == 1 then presences.Asleep
    else (if n == 2 then presences.Awake
    else (if n == 3 then presences.Disconnected else presences.Lost)))

-- a presence: one octet, 0 to 4
unfoldable pub presence_at : Reader Presence
presence_at = made_from presence_of (ranged (λ n. nat_le n 4) octet_at)

-- a part that may be there
abbrev pub option_at : {A : Type 0} → Reader A → Reader (Option A)
option_at read bytes =
    flag_at bytes >>= λ flag.
    if flag.0 then (read flag.1 >>= λ x. Ok (Some x.0, x.1)) else Ok (None, flag.1)

-- so many values, after those that were read
abbrev pub many_at : {A : Type 0} → Reader A → ℕ → List A → Reader (List A)
many_at read zero front bytes = Ok (front, bytes)
many_at read (suc n) front bytes = read bytes >>= λ x. many_at read n (front ++ x.0 ∷ []) x.1

-- how many values there are, and the values
abbrev pub counted_by : {A : Type 0} → Reader ℕ → Reader A → Reader (List A)
counted_by count read bytes = count bytes >>= λ n. many_at read n.0 [] n.1

-- at most 256 entries
abbrev pub counted_at : {A : Type 0} → Reader A → Reader (List A)
counted_at read = counted_by (ranged (λ n. nat_le n MAX_ENTRIES) (number_at w16)) read

-- a table; its order is looked at when it is whole
abbrev pub table_at : {A : Type 0} → (A → A → Ordering) → Reader A → Reader (List A)
table_at cmp read = ranged (is_ascending cmp) (counted_at read)

-- a topic filter: a size of two octets, 1 to 256, and its octets, with wildcards only as whole
-- levels
unfoldable pub filter_at : Reader (List ℕ)
filter_at =
    ranged (λ name. wildcards_stand_alone (levels name))
    (sized_at (λ n. nat_le 1 n && nat_le n MAX_TOPIC) (number_at w16))

-- a quality of service: one octet, 0 to 2
unfoldable pub qos_at : Reader ℕ
qos_at = ranged is_qos octet_at

-- the phase of an exchange that an octet stands for: 0 Registering, 1 Published, 2 Released
abbrev pub phase_from : ℕ → Phase
phase_from n =
    if n == 0 then phases.Registering else (if n == 1 then phases.Published else phases.Released)

-- the phase of an exchange: one octet, 0 to 2
unfoldable pub phase_at : Reader Phase
phase_at = made_from phase_from (ranged (λ n. nat_le n 2) octet_at)

-- a topic entry of its id, whether the client knows it, and its name
abbrev pub topic_entry_from : ℕ × (Bool × List ℕ) → TopicEntry
topic_entry_from x = record { id = x.0; name = x.1.1; known = x.1.0 }

-- a topic entry: an id of two octets, a flag, a name
unfoldable pub entry_at : Reader TopicEntry
entry_at =
    made_from topic_entry_from (both (ranged is_topic_id (number_at w16)) (both flag_at topic_at))

-- a subscription of its filter and quality of service
abbrev pub subscription_from : List ℕ × ℕ → Subscription
subscription_from x = record { filter = x.0; qos = x.1 }

-- a subscription: a filter, and a quality of service
unfoldable pub subscription_at : Reader Subscription
subscription_at = made_from subscription_from (both filter_at qos_at)

-- the topic of a will, of its quality of service, whether it is retained, and its name
abbrev pub will_topic_of : ℕ × (Bool × List ℕ) → WillTopic
will_topic_of x = record { topic = x.1.1; qos = x.0; retain = x.1.0 }

-- the topic of a will: a quality of service, a flag for retained, a name
unfoldable pub will_topic_at : Reader WillTopic
will_topic_at = made_from will_topic_of (both qos_at (both flag_at topic_at))

-- a will of its topic and its message
abbrev pub will_from : WillTopic × List ℕ → Will
will_from x = record { topic = x.0.topic; qos = x.0.qos; retain = x.0.retain; message = x.1 }

-- a will: its topic, then its message
unfoldable pub will_at : Reader Will
will_at = made_from will_from (both will_topic_at body_at)

-- an exchange of the message's origin and sequence number, its message id and its phase
abbrev pub exchange_of : ℕ × (ℕ × (ℕ × Phase)) → Outbound
exchange_of x = record { origin = x.0; seq = x.1.0; msg_id = x.1.1.0; phase = x.1.1.1 }

-- an exchange: an origin of one octet, a sequence number of eight, a message id of two, a phase
unfoldable pub exchange_at : Reader Outbound
exchange_at =
    made_from exchange_of (both (ranged is_positive octet_at)
    (both (ranged is_positive (number_at w64)) (both (number_at w16) phase_at)))

-- the topic entries of a session, ascending by id
unfoldable pub topics_at : Reader (List TopicEntry)
topics_at = table_at topic_cmp entry_at

-- the subscriptions of a session, ascending by filter
unfoldable pub subscriptions_at : Reader (List Subscription)
subscriptions_at = table_at subscription_cmp subscription_at

-- the message ids that were received and not yet released: two octets each, ascending
unfoldable pub received_at : Reader (List ℕ)
received_at = table_at nat_cmp (number_at w16)

-- a will, if there is one
unfoldable pub some_will_at : Reader (Option Will)
some_will_at = option_at will_at

-- the topic of a will, if there is one
unfoldable pub some_topic_at : Reader (Option WillTopic)
some_topic_at = option_at will_topic_at

-- an exchange, if there is one
unfoldable pub some_exchange_at : Reader (Option Outbound)
some_exchange_at = option_at exchange_at

-- presence, clean, duration, next message id
abbrev pub Head : Type 0
Head = Presence × (Bool × (ℕ × ℕ))

-- the first part of a session: a presence, a flag, two octets of duration, and two of an id that is
-- not 0
unfoldable pub head_at : Reader Head
head_at =
    both presence_at (both flag_at (both (number_at w16) (ranged is_positive (number_at w16))))

-- topic ids, subscriptions, will, received message ids, exchange
abbrev pub SessionParts : Type 0
SessionParts = List TopicEntry × (List Subscription × (Option Will × (List ℕ × Option Outbound)))

-- the tables of a session, its will and its exchange
unfoldable pub parts_at : Reader SessionParts
parts_at =
    both topics_at (both subscriptions_at (both some_will_at (both received_at some_exchange_at)))

-- a session of its two parts
abbrev pub session_from : Head × SessionParts → Session
session_from x = record {
  presence = x.0.0;
  clean = x.0.1.0;
  duration = x.0.1.1.0;
  next_id = x.0.1.1.1;
  topics = x.1.0;
  subscriptions = x.1.1.0;
  will = x.1.1.1.0;
  received = x.1.1.1.1.0;
  outbound = x.1.1.1.1.1;
}

-- a session: the values of fixed size, then the tables, the will and the exchange
unfoldable pub session_at : Reader Session
session_at = made_from session_from (both head_at parts_at)

-- the change of a presence: the presence, and a duration of two octets
unfoldable pub set_presence_at : Reader SessionOp
set_presence_at = made_from (λ x. SetPresence x.0 x.1) (both presence_at (number_at w16))

-- the change of an exchange: the next message id, then the exchange, if there is one
unfoldable pub set_outbound_at : Reader SessionOp
set_outbound_at =
    made_from (λ x. SetOutbound x.1 x.0)
    (both (ranged is_positive (number_at w16)) some_exchange_at)

-- the fields of a change, by its tag
abbrev pub fields_at : ℕ → Reader SessionOp
fields_at tag bytes =
    if tag == 0 then made_from (λ session. Take session) session_at bytes else (
    if tag == 1 then set_presence_at bytes else (
    if tag == 2 then made_from (λ entry. Register entry.id entry.name entry.known) entry_at bytes
    else (
    if tag == 3
    then made_from (λ subscription. Subscribe subscription.filter subscription.qos) subscription_at bytes
    else (
    if tag == 4 then made_from (λ asked. Unsubscribe asked) filter_at bytes else (
    if tag == 5 then made_from (λ asked. SetWillTopic asked) some_topic_at bytes else (
    if tag == 6 then made_from (λ message. WillMsg message) body_at bytes else (
    if tag == 7 then made_from (λ id. Received id) (number_at w16) bytes else (
    if tag == 8 then made_from (λ id. Released id) (number_at w16) bytes
    else set_outbound_at bytes))))))))

-- a change with counter 0 has tag 0, a Take; every other has a tag of 1 to 9
abbrev pub is_tag : ℕ → ℕ → Bool
is_tag counter tag = if counter == 0 then tag == 0 else (nat_le 1 tag && nat_le tag 9)

-- the change of a session operation with this counter: its tag, then the fields of that tag
unfoldable pub change_at : ℕ → Reader SessionOp
change_at counter bytes = ranged (is_tag counter) octet_at bytes >>= λ tag. fields_at tag.0 tag.1

-- ---- operations

-- a session operation of its client, epoch, gateway, counter and change
abbrev pub session_op_of : List ℕ × (ℕ × (ℕ × (ℕ × SessionOp))) → Op
session_op_of x = OfSession x.0 (record { epoch = x.1.0; gateway = x.1.1.0 }) x.1.1.1.0 x.1.1.1.1

-- a session operation: client, epoch, gateway, counter, change
unfoldable pub session_op_at : Reader Op
session_op_at =
    made_from session_op_of (both client_id_at
    (both (ranged is_positive (number_at w64))
    (both (ranged is_positive octet_at) (by_first octet_at change_at))))

-- whether a message was retained, and when it expires, in eight octets; version 1 says no and never
-- of each
unfoldable pub later_at : Version → Reader (Bool × ℕ)
later_at One bytes = Ok ((false, 0), bytes)
later_at Two bytes = both flag_at (number_at w64) bytes

-- a message of a client, of its origin, sequence number, topic, quality of service, whether it was
-- retained and when it expires, and octets
abbrev pub put_op_of : List ℕ × (ℕ × (ℕ × (List ℕ × (ℕ × ((Bool × ℕ) × List ℕ))))) → Op
put_op_of x =
    OfPut x.0 (record {
      origin = x.1.0;
      seq = x.1.1.0;
      topic = x.1.1.1.0;
      qos = x.1.1.1.1.0;
      retain = x.1.1.1.1.1.0.0;
      expires = x.1.1.1.1.1.0.1;
      body = x.1.1.1.1.1.1;
    })

-- what stands after the topic of a message: quality of service, what version 2 says, octets
unfoldable pub content_at : Version → Reader (ℕ × ((Bool × ℕ) × List ℕ))
content_at version = both qos_at (both (later_at version) body_at)

-- a message: client, origin, sequence number, topic, content
unfoldable pub put_op_at : Version → Reader Op
put_op_at version =
    made_from put_op_of (both client_id_at
    (both (ranged is_positive octet_at)
    (both (ranged is_positive (number_at w64))
    (both topic_at (content_at version)))))

-- a range of acknowledgements of its client, origin, first and last sequence number
abbrev pub ack_from : List ℕ × (ℕ × (ℕ × ℕ)) → Op
ack_from x = Ack x.0 x.1.0 x.1.1.0 x.1.1.1

-- a range does not end before it begins
unfoldable pub range_at : Reader (ℕ × ℕ)
range_at = ranged (λ x. nat_le x.0 x.1) (both (ranged is_positive (number_at w64)) (number_at w64))

-- a range of acknowledgements: client, origin, first and last sequence number
unfoldable pub ack_at : Reader Op
ack_at = made_from ack_from (both client_id_at (both (ranged is_positive octet_at) range_at))

-- what is retained, of its topic, clock, gateway, quality of service and octets
abbrev pub retain_op_of : List ℕ × (ℕ × (ℕ × (ℕ × List ℕ))) → Op
retain_op_of x =
    OfRetain x.0 (record {
      clock = x.1.0;
      gateway = x.1.1.0;
      qos = x.1.1.1.0;
      body = x.1.1.1.1;
    })

-- what is retained: topic, clock, gateway, quality of service, octets
unfoldable pub retain_op_at : Reader Op
retain_op_at =
    made_from retain_op_of (both topic_at
    (both (ranged is_positive (number_at w64))
    (both (ranged is_positive octet_at) (both qos_at body_at))))

-- an operation, by its kind
abbrev pub of_kind_at : Version → ℕ → Reader Op
of_kind_at version kind bytes =
    if kind == 1 then session_op_at bytes
    else (if kind == 2 then put_op_at version bytes
    else (if kind == 3 then ack_at bytes else retain_op_at bytes))

-- the last kind that a version knows
abbrev pub last_kind : Version → ℕ
last_kind One = 3
last_kind Two = 4

-- a kind that the version knows
abbrev pub is_kind : Version → ℕ → Bool
is_kind version kind = nat_le 1 kind && nat_le kind (last_kind version)

-- an operation of a text of this version: its kind, 1 to 3 or 4, then the fields of that kind
unfoldable pub op_at : Version → Reader Op
op_at version bytes =
    ranged (is_kind version) octet_at bytes >>= λ kind. of_kind_at version kind.0 kind.1

-- ---- what a function returned, against reading

-- a result is the fault that reading gives, unless memory ran out
abbrev pub Fails : {Y : Type 0} → OpsFault → Result Y OpsFault → Type 0
Fails faults.Memory read = Unit {0}
Fails fault read = read ≡ Err fault

-- a result is what reading gives, seen by a view, unless memory ran out
abbrev pub ReadsAs : {X Y : Type 0} → (X → Y) → Result X OpsFault → Result Y OpsFault → Type 0
ReadsAs view (Ok x) read = read ≡ Ok (view x)
ReadsAs view (Err fault) read = Fails fault read
