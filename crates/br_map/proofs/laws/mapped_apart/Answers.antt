use Rattle.br_map.proofs.Mapped.{mapped_same}
use Rattle.br_map.proofs.laws.mapped_apart.Goals as goal

pub returns : goal.returns
returns c = mapped_same
