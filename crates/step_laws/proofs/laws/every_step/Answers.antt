use Rattle.step_laws.proofs.laws.every_step.Goals as goal
use Rattle.step_laws.proofs.Drafting.{step-drafted, tick-drafted}

pub returns : goal.returns
returns c = record {
  steps = step-drafted;
  ticks = tick-drafted;
}
