use Rattle.br_core.proofs.Taking.{finds-again}
use Rattle.br_core.proofs.laws.finds_again.Goals as goal

pub returns : goal.returns
returns c = finds-again
