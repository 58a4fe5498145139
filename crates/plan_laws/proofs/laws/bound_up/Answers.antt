use Rattle.plan_laws.proofs.BoundBehind.{step-up, tick-up, taken-up, equal-up, finds-up}
use Rattle.plan_laws.proofs.laws.bound_up.Goals as goal

pub returns : goal.returns
returns c = record {
  start = λ g. tt;
  steps = λ g lifetime predefined S local a frame now plan delta flush up e same.
      step-up g S flush local up plan delta same lifetime predefined a frame now e;
  ticks = λ g lifetime advertise field predefined S local now plan delta flush up e same.
      tick-up g S flush local up plan delta same lifetime predefined advertise field now e;
  taken = λ g S delta local up none. taken-up g S delta local up none;
  equal = equal-up;
  found = finds-up;
}
