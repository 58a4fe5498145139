use Rattle.br_spool.proofs.Counted.{never-again}
use Rattle.br_spool.proofs.laws.never_again.Goals as goal

pub returns : goal.returns
returns c = never-again
