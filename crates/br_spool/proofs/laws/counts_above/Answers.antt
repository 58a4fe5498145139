use Rattle.br_spool.proofs.Counted.{counts-above}
use Rattle.br_spool.proofs.laws.counts_above.Goals as goal

pub returns : goal.returns
returns c = counts-above
