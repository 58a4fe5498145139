-- What an operation makes of a session.
use Rattle.std.specs.Prelude.{Bool, true, false, if◌then◌else◌, [], None, is_none}
use Rattle.sn_session.specs.declared.presence.Presence.TheVariants.{Active}
use Rattle.sn_session.specs.declared.session.Session.{Session}
use Rattle.sn_session.specs.declared.change.SessionOp.{SessionOp}
use Rattle.sn_session.specs.declared.change.SessionOp.TheVariants.{Take, Presence as SetPresence, Register, Subscribe, Unsubscribe, WillTopic, WillMsg, Received, Released, Outbound}
use Rattle.sn_tables.specs.Topics.{with_topic, topic_has_no_room}
use Rattle.sn_tables.specs.Subscriptions.{with_subscription, without_filter, filter_has_no_room}
use Rattle.sn_tables.specs.Received.{with_received, without_received, id_has_no_room}
use Rattle.sn_session.specs.Wills.{with_will_topic, with_will_message}

-- the session of a client of which nothing is known: Active, not clean, next message id 1, all else
-- empty
abbrev pub empty_session : Session
empty_session =
    record {
      presence = Active;
      clean = false;
      duration = 0;
      next_id = 1;
      topics = [];
      subscriptions = [];
      will = None;
      received = [];
      outbound = None;
    }

-- whether the operation finds the table full that it would make grow
abbrev pub is_full : Session → SessionOp → Bool
is_full session (Register id name known) = topic_has_no_room id session.topics
is_full session (Subscribe filter qos) = filter_has_no_room filter session.subscriptions
is_full session (Received id) = id_has_no_room id session.received
is_full session change = false

-- the session after one more operation that finds room
abbrev pub session_changed : Session → SessionOp → Session
session_changed session (Take taken) = taken
session_changed session (SetPresence presence duration) =
    record session { presence = presence; duration = duration }
session_changed session (Register id name known) =
    record session {
      topics = with_topic
          (record { id = id; name = name; known = known }) session.topics;
    }
session_changed session (Subscribe filter qos) =
    record session {
      subscriptions = with_subscription
          (record { filter = filter; qos = qos }) session.subscriptions;
    }
session_changed session (Unsubscribe filter) =
    record session { subscriptions = without_filter filter session.subscriptions }
session_changed session (WillTopic asked) =
    record session { will = with_will_topic asked session.will }
session_changed session (WillMsg message) =
    record session { will = with_will_message message session.will }
session_changed session (Received id) =
    record session { received = with_received id session.received }
session_changed session (Released id) =
    record session { received = without_received id session.received }
session_changed session (Outbound exchange next_id) =
    record session { outbound = exchange; next_id = next_id }

-- the session after one more operation: one that finds its table full leaves the session as it was
abbrev pub applied : Session → SessionOp → Session
applied session change = if is_full session change then session else session_changed session change

-- whether the operation holds a whole session
abbrev pub is_take : SessionOp → Bool
is_take (Take taken) = true
is_take change = false

-- whether the operation puts nothing into a session that takes memory: no octets, and no entry
abbrev pub is_light_op : SessionOp → Bool
is_light_op (SetPresence presence duration) = true
is_light_op (Unsubscribe filter) = true
is_light_op (WillTopic asked) = is_none asked
is_light_op (Released id) = true
is_light_op (Outbound exchange next_id) = true
is_light_op change = false
