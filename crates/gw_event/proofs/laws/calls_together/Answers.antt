use Rattle.gw_event.proofs.Turns.{turn_one, one_turn, turn_append, turn_halted, together_told, torn_one}
use Rattle.gw_event.proofs.laws.calls_together.Goals as goal

pub returns : goal.returns
returns c = record {
  one = λ old new call answer made. (one_turn old new call answer made, turn_one old new call answer made);
  append = turn_append;
  halted = turn_halted;
  told = together_told;
  torn = torn_one;
}
