use Rattle.std.proofs.Common.{refl}
use Rattle.put_laws.proofs.Lasting.{step-moments, tick-moments, later-moment, late-moment}
use Rattle.put_laws.proofs.laws.moments.Goals as goal

pub returns : goal.returns
returns c = record {
  frames = step-moments;
  ticks = tick-moments;
  none = λ now. refl;
  later = later-moment;
  too_late = late-moment;
}
