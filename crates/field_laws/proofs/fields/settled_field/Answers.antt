use Rattle.field_laws.proofs.fields.settled_field.Goals as goal
use Rattle.field_laws.proofs.Settling.{field-listed, field-within, field-alike, field-reached, field-all, field-complete, field-settled, shown-same, retained-same}

pub returns : goal.returns
returns c = record { listed = field-listed; within = field-within; alike = field-alike; reached = field-reached; all = field-all; complete = field-complete; settled = field-settled; shown = shown-same; kept = retained-same }
