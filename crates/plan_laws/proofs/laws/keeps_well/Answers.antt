use Rattle.step_laws.proofs.Drafting.{step-drafted, tick-drafted}
use Rattle.plan_laws.proofs.Steps.{step-makes, tick-makes, start-keeps, made-keeps, taken-keeps}
use Rattle.plan_laws.proofs.laws.keeps_well.Goals as goal

pub returns : goal.returns
returns c = record {
  start = start-keeps;
  steps = λ g lifetime predefined S local a frame now plan delta k e d.
      made-keeps g S local plan delta k (step-drafted g lifetime predefined S local a frame now plan e) (step-makes g S local k predefined plan lifetime a frame now e) d.delta.well_made d.same;
  ticks = λ g lifetime advertise field predefined S local now plan delta k e d.
      made-keeps g S local plan delta k (tick-drafted g lifetime advertise field predefined S local now plan e) (tick-makes g S local k predefined plan lifetime advertise field now e) d.delta.well_made d.same;
  taken = taken-keeps;
}
