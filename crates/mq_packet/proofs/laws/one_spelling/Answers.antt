use Rattle.mq_packet.proofs.Refusals.{canonical_only, canonical_shortest, fitting_spelled, spelled_canonical}
use Rattle.mq_packet.proofs.laws.one_spelling.Goals as goal

pub returns-clause-canonical : goal.returns-clause-canonical
returns-clause-canonical c = spelled_canonical

pub returns-clause-spelled : goal.returns-clause-spelled
returns-clause-spelled c = fitting_spelled

pub returns-clause-shortest : goal.returns-clause-shortest
returns-clause-shortest c = canonical_shortest

pub returns-clause-back : goal.returns-clause-back
returns-clause-back c = canonical_only
