use Rattle.row_laws.proofs.laws.one_binding.Goals as goal
use Rattle.row_laws.proofs.Alone.{bound-client, bound-alone}

pub returns : goal.returns
returns c = record { client = bound-client; alone = bound-alone }
