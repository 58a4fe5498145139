use Rattle.br_core.proofs.Taking.{takes-next}
use Rattle.br_core.proofs.laws.takes_in.Goals as goal

pub returns : goal.returns
returns c = takes-next
