use Rattle.plan_laws.proofs.Steps.{step-makes, tick-makes}
use Rattle.plan_laws.proofs.laws.every_plan.Goals as goal

pub returns : goal.returns
returns c = record {
  steps = λ g lifetime predefined S local a frame now plan k e. (step-makes g S local k predefined plan lifetime a frame now e).apart;
  ticks = λ g lifetime advertise field predefined S local now plan k e. (tick-makes g S local k predefined plan lifetime advertise field now e).apart;
}
