use Rattle.br_core.proofs.Running.{allowed}
use Rattle.br_core.proofs.laws.acknowledges_behind.Goals as goal

pub returns : goal.returns
returns c = allowed
