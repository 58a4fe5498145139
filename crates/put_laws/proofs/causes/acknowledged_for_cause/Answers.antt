use Rattle.put_laws.proofs.Stepping.{step-cause}
use Rattle.put_laws.proofs.Timely.{tick-timely, loss-quiet}
use Rattle.put_laws.proofs.causes.acknowledged_for_cause.Goals as goal

pub returns : goal.returns
returns c = record {
  steps = step-cause;
  ticks = tick-timely;
  losses = loss-quiet;
}
