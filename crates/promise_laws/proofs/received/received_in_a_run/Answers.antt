use Rattle.promise_laws.proofs.Tracing.{field-received}
use Rattle.promise_laws.proofs.received.received_in_a_run.Goals as goal

pub returns : goal.returns
returns c = record {
  received = λ configs events answers field i gateway client id. field-received client id configs events answers field i gateway;
  repeated = λ configs event out old new i gateway a id h had.
      (had.0, had.1, field-received had.0 id configs h.events h.answers old i gateway h.run h.at.1 had.2);
}
