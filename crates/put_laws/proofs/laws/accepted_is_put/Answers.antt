use Rattle.put_laws.proofs.Putting.{step-messages, tick-messages, gateway-once}
use Rattle.put_laws.proofs.Recipients.{for-recipients, for-will}
use Rattle.put_laws.proofs.Saying.{puback-put, pubrec-put}
use Rattle.put_laws.proofs.Waiting.{gateway-kept}
use Rattle.put_laws.proofs.laws.accepted_is_put.Goals as goal

pub returns : goal.returns
returns c = record {
  frames = step-messages;
  ticks = tick-messages;
  puback = λ g lifetime predefined seen local a flags topic msg_id body now plan t m is. puback-put g lifetime predefined seen local a flags topic msg_id body now plan is t m;
  pubrec = λ g lifetime predefined seen local a flags topic msg_id body now plan m is. pubrec-put g lifetime predefined seen local a flags topic msg_id body now plan is m;
  recipients = for-recipients;
  wills = for-will;
  once = gateway-once;
  kept = gateway-kept;
}
