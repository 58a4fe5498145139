use Rattle.sn_flow.specs.Connection.{connect, disconnect}
use Rattle.sn_flow.specs.Wills.{will_topic, will_msg, will_topic_update, will_msg_update}
use Rattle.sn_subscribe.specs.TopicRows.{register, unsubscribe}
use Rattle.sn_plan.specs.Others.{other}
use Rattle.row_laws.proofs.laws.rows_make_no_message.Goals as goal
use Rattle.row_laws.proofs.Drafting.{no-message, connect-made, disconnect-made, will_topic-made, will_msg-made, will_topic_update-made, will_msg_update-made, register-made, subscribe-puts, subscribe-retain, unsubscribe-made, other-made}

pub returns : goal.returns
returns c = record {
  connects = λ seen local a flags protocol duration c now. no-message (connect seen local a flags protocol duration c now) (connect-made seen local a flags protocol duration c now);
  disconnects = λ seen local a duration now. no-message (disconnect seen local a duration now) (disconnect-made seen local a duration now);
  will_topics = λ seen local a will now. no-message (will_topic seen local a will now) (will_topic-made seen a now local will);
  will_messages = λ seen local a message now. no-message (will_msg seen local a message now) (will_msg-made seen a now local message);
  topic_updates = λ local a will now. no-message (will_topic_update local a will now) (will_topic_update-made local a will now);
  message_updates = λ seen local a message now. no-message (will_msg_update seen local a message now) (will_msg_update-made seen a now local message);
  registers = λ seen local a msg_id name now. no-message (register seen local a msg_id name now) (register-made seen a now local msg_id name);
  subscribes = λ p seen local a bits msg_id field now. (subscribe-puts seen a now p local bits msg_id field, subscribe-retain seen a now p local bits msg_id field);
  unsubscribes = λ p seen local a bits msg_id field now. no-message (unsubscribe p seen local a bits msg_id field now) (unsubscribe-made seen a now p local bits msg_id field);
  others = λ g local a frame now. no-message (other g local a frame now) (other-made g local a frame now);
}
