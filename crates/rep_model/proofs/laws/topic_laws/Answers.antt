use Rattle.rep_model.specs.Keep.{keep}
use Rattle.rep_model.proofs.laws.topic_laws.Goals as goal
use Rattle.rep_model.proofs.Thin.{thin-keep}
use Rattle.rep_model.proofs.Topics.{topics-thin, topics-named, topics-ascend}

pub returns : goal.returns
returns c = record {
  kept = λ S. topics-thin (keep S) S (thin-keep S);
  listed = topics-named;
  ascending = topics-ascend;
}
