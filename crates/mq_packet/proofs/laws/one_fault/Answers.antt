use Rattle.mq_packet.proofs.OneFault.{one_first_fault}
use Rattle.mq_packet.proofs.Refusals.{is_refused}
use Rattle.mq_packet.proofs.laws.one_fault.Goals as goal

pub returns-clause-one : goal.returns-clause-one
returns-clause-one c = one_first_fault

pub returns-clause-no_packet : goal.returns-clause-no_packet
returns-clause-no_packet c = is_refused
