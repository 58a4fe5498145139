use Rattle.step_laws.proofs.Settling.{tick-settles}
use Rattle.step_laws.proofs.laws.tick_settles.Goals as goal

pub returns : goal.returns
returns c = tick-settles
