use Rattle.field_laws.proofs.InJournals.{field-stored, answer-stored}
use Rattle.field_laws.proofs.laws.stored.Goals as goal

pub returns : goal.returns
returns c = record { made = field-stored; answered = answer-stored }
