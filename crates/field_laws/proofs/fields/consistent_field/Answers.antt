use Rattle.field_laws.proofs.fields.consistent_field.Goals as goal
use Rattle.gw_world.proofs.Consistency.{field-consistent, field-parts, field-well_made, field-agrees, field-no_conflict, field-never, field-never_together}

pub returns : goal.returns
returns c = record { consistent = field-consistent; parts = field-parts; well_made = field-well_made; agrees = field-agrees; no_conflict = field-no_conflict; never = field-never; never_together = field-never_together }
