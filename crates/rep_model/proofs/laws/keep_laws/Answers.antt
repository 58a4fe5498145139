use Rattle.rep_model.specs.Keep.{keep}
use Rattle.rep_model.proofs.laws.keep_laws.Goals as goal
use Rattle.rep_model.proofs.Thin.{thin-keep, thin-between, view-thin, retained-thin}
use Rattle.rep_model.proofs.Joins.{joined-kept}
use Rattle.rep_model.proofs.Topics.{topics-thin, next_clock-thin}
use Rattle.rep_model.proofs.Fresh.{next_epoch-thin, next_seq-thin}

pub returns : goal.returns
returns c = record {
  joined = joined-kept;
  seen = λ c S. view-thin (keep S) S (thin-keep S) c;
  epoch = λ c S. next_epoch-thin (keep S) S (thin-keep S) c;
  seq = λ c gateway S. next_seq-thin c gateway (keep S) S (thin-keep S);
  retained = λ t S. retained-thin (keep S) S (thin-keep S) t;
  clock = λ t S. next_clock-thin t (keep S) S (thin-keep S);
  topics = λ S. topics-thin (keep S) S (thin-keep S);
  between = λ c S K k. view-thin K S (thin-between S K k) c;
}
