use Rattle.field_laws.proofs.fields.steady_field.Goals as goal
use Rattle.gw_world.proofs.Consistency.{field-steady}
use Rattle.gw_world.proofs.Steadiness.{plan-agrees, no-conflict}

pub returns : goal.returns
returns c = record { steady = field-steady; agrees = plan-agrees; no_conflict = no-conflict }
