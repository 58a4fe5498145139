use Rattle.field_laws.proofs.fields.together_field.Goals as goal
use Rattle.field_laws.proofs.OneByOne.{row-went, row-told}

pub returns : goal.returns
returns c = record { went = row-went; told = row-told }
