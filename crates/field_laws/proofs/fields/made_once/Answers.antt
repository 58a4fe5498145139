use Rattle.field_laws.proofs.fields.made_once.Goals as goal
use Rattle.gw_world.proofs.Consistency.{field-home}
use Rattle.gw_world.proofs.Telling.{field-once, after-makes, field-told, field-brought, field-unasked}
use Rattle.field_laws.proofs.Writing.{field-writes}

pub returns : goal.returns
returns c = record { home = field-home; writes = field-writes; once = field-once; makes = after-makes; told = field-told; list = field-brought; unasked = field-unasked }
