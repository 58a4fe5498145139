-- Which values operations of the program have. In a law a number of an operation ranges over all
-- numbers.
use Rattle.std.specs.Prelude.{◌<◌, ◌^◌, List, Option, Some, None}
use Rattle.std.specs.List.{AllByRecursion}
use Rattle.std.specs.Ordering.{nat_cmp}
use Rattle.sn_topic.specs.Topics.{IsName, IsFilter}
use Rattle.sn_tables.specs.Tables.{IsTable}
use Rattle.sn_tables.specs.Topics.{topic_cmp}
use Rattle.sn_tables.specs.Subscriptions.{subscription_cmp}
use Rattle.sn_session.specs.declared.session.Session.{Session}
use Rattle.sn_tables.specs.declared.topics.TopicEntry.{TopicEntry}
use Rattle.sn_tables.specs.declared.subscriptions.Subscription.{Subscription}
use Rattle.sn_session.specs.declared.will.Will.{Will}
use Rattle.sn_session.specs.declared.will.WillTopic.{WillTopic}
use Rattle.sn_session.specs.declared.outbound.Outbound.{Outbound}
use Rattle.sn_session.specs.declared.change.SessionOp.{SessionOp}
use Rattle.sn_session.specs.declared.change.SessionOp.TheVariants.{Take, Presence as SetPresence, Register, Subscribe, Unsubscribe, WillTopic as SetWillTopic, WillMsg, Received, Released, Outbound as SetOutbound}
use Rattle.rep_op.specs.ClientIds.{IsClientId}
use Rattle.rep_op.specs.declared.op.Op.{Op}
use Rattle.rep_op.specs.declared.op.Op.TheVariants.{Session as OfSession, Put as OfPut, Ack, Retain as OfRetain}

-- a topic entry: an id of 16 bits, and a topic name
abbrev pub IsEntryValue : TopicEntry → Type 0
IsEntryValue entry = (entry.id < 2 ^ 16) × IsName entry.name

-- a subscription to a topic filter
abbrev pub IsSubscriptionValue : Subscription → Type 0
IsSubscriptionValue subscription = IsFilter subscription.filter

-- no will, or one whose topic is a topic name
abbrev pub IsWillValue : Option Will → Type 0
IsWillValue None = Unit {0}
IsWillValue (Some will) = IsName will.topic

-- no topic of a will, or one that is a topic name
abbrev pub IsWillTopicValue : Option WillTopic → Type 0
IsWillTopicValue None = Unit {0}
IsWillTopicValue (Some asked) = IsName asked.topic

-- an exchange: an origin of 8 bits, a sequence number of 64, a message id of 16
abbrev pub IsExchangeValue : Option Outbound → Type 0
IsExchangeValue None = Unit {0}
IsExchangeValue (Some exchange) =
    (exchange.origin < 2 ^ 8) × (exchange.seq < 2 ^ 64) × (exchange.msg_id < 2 ^ 16)

-- a session: its numbers have 16 bits, and its tables hold values
pub record IsSessionValue (session : Session) : Type 0 where
  pub duration : session.duration < 2 ^ 16
  pub next_id : session.next_id < 2 ^ 16
  pub topics : IsTable topic_cmp session.topics × AllByRecursion IsEntryValue session.topics
  pub subscriptions : IsTable subscription_cmp session.subscriptions
      × AllByRecursion IsSubscriptionValue session.subscriptions
  pub will : IsWillValue session.will
  pub received : IsTable nat_cmp session.received
      × AllByRecursion (λ id. id < 2 ^ 16) session.received
  pub outbound : IsExchangeValue session.outbound

-- the numbers of a change fit their octets, and its topics, filters and session are values
abbrev pub IsChangeValue : SessionOp → Type 0
IsChangeValue (Take session) = IsSessionValue session
IsChangeValue (SetPresence presence duration) = duration < 2 ^ 16
IsChangeValue (Register id name known) = (id < 2 ^ 16) × IsName name
IsChangeValue (Subscribe filter qos) = IsFilter filter
IsChangeValue (Unsubscribe filter) = IsFilter filter
IsChangeValue (SetWillTopic asked) = IsWillTopicValue asked
IsChangeValue (WillMsg message) = Unit {0}
IsChangeValue (Received id) = id < 2 ^ 16
IsChangeValue (Released id) = id < 2 ^ 16
IsChangeValue (SetOutbound exchange next_id) = (next_id < 2 ^ 16) × IsExchangeValue exchange

-- an operation of the program: clients and topics are such, gateways and counters have 8 bits,
-- epochs, sequence numbers, clocks and moments 64
abbrev pub IsOpValue : Op → Type 0
IsOpValue (OfSession client stamp counter change) =
    IsClientId client × (stamp.epoch < 2 ^ 64) × (stamp.gateway < 2 ^ 8) × (counter < 2 ^ 8)
    × IsChangeValue change
IsOpValue (OfPut client put) =
    IsClientId client × (put.origin < 2 ^ 8) × (put.seq < 2 ^ 64) × IsName put.topic
    × (put.expires < 2 ^ 64)
IsOpValue (Ack client origin first last) =
    IsClientId client × (origin < 2 ^ 8) × (first < 2 ^ 64) × (last < 2 ^ 64)
IsOpValue (OfRetain topic kept) = IsName topic × (kept.clock < 2 ^ 64) × (kept.gateway < 2 ^ 8)

-- each operation is a value of the program
abbrev pub AreValues : List Op → Type 0
AreValues ops = AllByRecursion IsOpValue ops
