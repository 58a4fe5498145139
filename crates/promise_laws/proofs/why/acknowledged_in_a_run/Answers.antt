use Rattle.promise_laws.proofs.Acking.{run-acked, field-acked, taken-acked}
use Rattle.promise_laws.proofs.why.acknowledged_in_a_run.Goals as goal

pub returns : goal.returns
returns c = record {
  written = λ configs events answers field client name. field-acked client name configs events answers field;
  taken = λ configs events answers field gateway client name. taken-acked client name configs events answers field gateway;
  since = λ old new more replies client name. run-acked client name old more replies new;
}
