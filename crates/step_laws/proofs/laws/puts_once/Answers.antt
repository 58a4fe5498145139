use Rattle.step_laws.proofs.Keeping.{puts-once}
use Rattle.step_laws.proofs.laws.puts_once.Goals as goal

pub returns : goal.returns
returns c = puts-once
