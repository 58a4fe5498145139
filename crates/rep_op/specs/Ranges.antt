-- Which values of a session and of a change are in range. The order and the size of a session's
-- tables are their types' own.
use Rattle.std.specs.Prelude.{ℕ, Bool, true, ◌&&◌, nat_le, List, length, Option, Some, None}
use Rattle.std.specs.List.{list_all}
use Rattle.sn_topic.specs.Table.{is_topic_id}
use Rattle.sn_tables.specs.Levels.{is_qos}
use Rattle.sn_session.specs.declared.message.TheConstants.{MAX_MESSAGE}
use Rattle.sn_session.specs.declared.session.Session.{Session}
use Rattle.sn_tables.specs.declared.topics.TopicEntry.{TopicEntry}
use Rattle.sn_tables.specs.declared.subscriptions.Subscription.{Subscription}
use Rattle.sn_session.specs.declared.will.Will.{Will}
use Rattle.sn_session.specs.declared.will.WillTopic.{WillTopic}
use Rattle.sn_session.specs.declared.outbound.Outbound.{Outbound}
use Rattle.sn_session.specs.declared.change.SessionOp.{SessionOp}
use Rattle.sn_session.specs.declared.change.SessionOp.TheVariants.{Take, Register, Subscribe, WillTopic as SetWillTopic, WillMsg, Outbound as SetOutbound}

-- a message has at most 4,096 octets
abbrev pub is_message : List ℕ → Bool
is_message message = nat_le (length message) MAX_MESSAGE

-- the id of a topic entry is 1 to 65,534 (5.3.11)
abbrev pub is_topic : TopicEntry → Bool
is_topic entry = is_topic_id entry.id

-- the quality of service of a subscription is 0 to 2
abbrev pub is_subscription : Subscription → Bool
is_subscription subscription = is_qos subscription.qos

-- the quality of service of a will is 0 to 2, its message has at most 4,096 octets; no will is in
-- range
abbrev pub is_will : Option Will → Bool
is_will None = true
is_will (Some will) = is_qos will.qos && is_message will.message

-- the quality of service of a will's topic is 0 to 2; no topic, which deletes the will, is in range
abbrev pub is_will_topic : Option WillTopic → Bool
is_will_topic None = true
is_will_topic (Some asked) = is_qos asked.qos

-- the origin and the sequence number of an exchange begin at 1
abbrev pub is_exchange : Option Outbound → Bool
is_exchange None = true
is_exchange (Some exchange) = nat_le 1 exchange.origin && nat_le 1 exchange.seq

-- the values of a session are in range: those of its tables, its will and its exchange; its next
-- message id is not 0
abbrev pub is_session : Session → Bool
is_session session =
    nat_le 1 session.next_id && list_all is_topic session.topics
    && list_all is_subscription session.subscriptions
    && is_will session.will && is_exchange session.outbound

-- the values of a change are in range; its next message id, if it has one, is not 0
abbrev pub is_change : SessionOp → Bool
is_change (Take session) = is_session session
is_change (Register id name known) = is_topic_id id
is_change (Subscribe filter qos) = is_qos qos
is_change (SetWillTopic asked) = is_will_topic asked
is_change (WillMsg message) = is_message message
is_change (SetOutbound exchange next_id) = nat_le 1 next_id && is_exchange exchange
is_change change = true
