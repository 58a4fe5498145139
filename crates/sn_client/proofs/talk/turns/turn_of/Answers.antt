use Rattle.sn_client.proofs.TurnLaws.{own}
use Rattle.sn_client.proofs.talk.turns.turn_of.Goals as goal

pub returns-clause-own : goal.returns-clause-own
returns-clause-own c = rw c.turn_by_type.ensures (own c.args.awaited c.args.frame.now)
