use Rattle.rep_model.proofs.laws.retained_laws.Goals as goal
use Rattle.rep_model.proofs.Topics.{topic-retained, retained-last, retained-both, retained-leaves, next_clock-free, next_clock-wins}

pub returns : goal.returns
returns c = record {
  last = retained-last;
  some = topic-retained;
  both = retained-both;
  leaves = λ t S W k. retained-leaves t S k W;
  free = next_clock-free;
  wins = next_clock-wins;
}
