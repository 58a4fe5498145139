use Rattle.step_laws.proofs.Keeping.{resent-with-dup}
use Rattle.step_laws.proofs.laws.resent_with_dup.Goals as goal

pub returns : goal.returns
returns c = resent-with-dup
