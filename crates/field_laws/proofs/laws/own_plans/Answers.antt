use Rattle.field_laws.proofs.OwnPlans.{run-keeps, run-makes}
use Rattle.field_laws.proofs.laws.own_plans.Goals as goal

pub returns : goal.returns
returns c = record {
  keeps = run-keeps;
  apart = λ configs events answers field number i gateway occasion now plan numbered run at h.
      run-makes configs events answers field number i gateway numbered run at occasion now plan h;
}
