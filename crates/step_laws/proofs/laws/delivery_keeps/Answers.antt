use Rattle.step_laws.proofs.Keeping.{delivery-keeps}
use Rattle.step_laws.proofs.laws.delivery_keeps.Goals as goal

pub returns : goal.returns
returns c = delivery-keeps
