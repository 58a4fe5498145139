use Rattle.gw_node.proofs.Taken.{step_carries_on}
use Rattle.gw_node.proofs.laws.calls_carry_on.Goals as goal

pub returns : goal.returns
returns g c = λ old new step answer h. step_carries_on old new step answer h
