use Rattle.std.proofs.lemmas.Bool.{ltb-true}
use Rattle.rep_entry.proofs.Spans.{none_within}
use Rattle.rep_entry.proofs.span.Span.is_empty.Goals as goal

pub returns : goal.returns
returns c = λ empty number. none_within c.args.self number (ltb-true c.args.self.last c.args.self.first empty)
