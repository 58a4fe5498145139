use Rattle.gw_event.proofs.Turns.{together_one, one_together, turn_written, torn_refused}
use Rattle.gw_event.proofs.laws.written_together.Goals as goal

pub returns : goal.returns
returns c = record {
  single = λ old new call answer made. (together_one old new call answer made, one_together old new call answer made);
  adds = turn_written;
  refused = torn_refused;
}
