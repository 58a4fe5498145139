use Rattle.br_spool.proofs.Placed.{one-reading}
use Rattle.br_spool.proofs.laws.one_reading.Goals as goal

pub returns : goal.returns
returns c = one-reading
