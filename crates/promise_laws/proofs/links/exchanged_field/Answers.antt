use Rattle.promise_laws.proofs.Exchanging.{field-took, field-answered, field-exchanged, set-passes}
use Rattle.promise_laws.proofs.links.exchanged_field.Goals as goal

pub returns : goal.returns
returns c = record { took = field-took; answered = field-answered; passes = set-passes; exchanged = field-exchanged }
