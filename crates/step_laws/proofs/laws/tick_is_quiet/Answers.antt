use Rattle.step_laws.proofs.Keeping.{tick-quiet}
use Rattle.step_laws.proofs.laws.tick_is_quiet.Goals as goal

pub returns : goal.returns
returns c = tick-quiet
