use Rattle.std.proofs.Common.{length, ap, ◌∙◌}
use Rattle.jr_journal.specs.Records.{written_all}
use Rattle.jr_journal.proofs.records.Records.size.Goals as goal

pub returns : goal.returns
returns c = c.len.ensures ∙ c.self.inside.bytes.ok.0 ∙ ap length (c.self.invariant.are ∙ ap (λ ds. written_all ds) c.self.view_is)
