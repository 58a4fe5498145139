use Rattle.field_laws.proofs.OwnPlans.{run-full}
use Rattle.field_laws.proofs.laws.own_full.Goals as goal

pub returns : goal.returns
returns c = λ configs events answers field number i gateway new occasion now made numbered run at h.
    run-full configs events answers field number i gateway numbered run at new occasion now made h
