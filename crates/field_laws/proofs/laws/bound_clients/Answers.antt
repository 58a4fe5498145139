use Rattle.plan_laws.proofs.BoundBehind.{finds-up}
use Rattle.field_laws.proofs.BoundRuns.{field-up}
use Rattle.field_laws.proofs.laws.bound_clients.Goals as goal

pub returns : goal.returns
returns c = record {
  up = field-up;
  found = λ configs events answers field number i gateway a c run at e.
      finds-up number gateway.taken gateway.local a c (field-up configs events answers field number i gateway run at) e;
}
