use Rattle.step_laws.proofs.Beginning.{one-exchange}
use Rattle.step_laws.proofs.laws.one_exchange.Goals as goal

pub returns : goal.returns
returns c = one-exchange
