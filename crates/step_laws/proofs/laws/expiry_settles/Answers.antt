use Rattle.step_laws.proofs.Expiring.{expiry-settles}
use Rattle.step_laws.proofs.laws.expiry_settles.Goals as goal

pub returns : goal.returns
returns c = expiry-settles
