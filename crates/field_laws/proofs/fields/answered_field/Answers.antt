use Rattle.field_laws.proofs.fields.answered_field.Goals as goal
use Rattle.field_laws.proofs.Catching.{completes, completes-however, caught-up}

pub returns : goal.returns
returns c = record { completes = completes; however = completes-however; caught_up = caught-up }
