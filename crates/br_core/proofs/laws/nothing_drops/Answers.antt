use Rattle.br_core.proofs.Keeps.{nothing-drops}
use Rattle.br_core.proofs.laws.nothing_drops.Goals as goal

pub returns : goal.returns
returns c = nothing-drops
