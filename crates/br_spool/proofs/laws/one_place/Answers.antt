use Rattle.br_spool.proofs.Placed.{one-place}
use Rattle.br_spool.proofs.laws.one_place.Goals as goal

pub returns : goal.returns
returns c = one-place
