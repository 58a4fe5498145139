use Rattle.br_map.proofs.Mapped.{topic_mapped}
use Rattle.br_map.proofs.laws.mapped_topic.Goals as goal

pub returns : goal.returns
returns c = topic_mapped
