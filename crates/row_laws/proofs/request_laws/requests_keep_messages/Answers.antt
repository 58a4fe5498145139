use Rattle.row_laws.proofs.Keeping.{of_register, of_subscribe, of_unsubscribe, of_will_topic_update, of_will_msg_update}
use Rattle.row_laws.proofs.request_laws.requests_keep_messages.Goals as goal

pub returns : goal.returns
returns c = record {
  registers = of_register;
  subscribes = of_subscribe;
  unsubscribes = of_unsubscribe;
  will_topic = of_will_topic_update;
  will_message = of_will_msg_update;
}
