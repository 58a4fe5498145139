use Rattle.br_spool.proofs.Found.{found-again}
use Rattle.br_spool.proofs.laws.found_again.Goals as goal

pub returns : goal.returns
returns c = found-again
