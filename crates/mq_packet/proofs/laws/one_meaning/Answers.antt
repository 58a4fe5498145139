use Rattle.mq_packet.proofs.Refusals.{one_packet}
use Rattle.mq_packet.proofs.laws.one_meaning.Goals as goal

pub returns : goal.returns
returns c = one_packet
