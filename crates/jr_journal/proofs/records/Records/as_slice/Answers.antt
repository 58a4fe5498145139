use Rattle.std.proofs.Common.{List, ap, subst, ◌∙◌}
use Rattle.std.specs.List.{AllByRecursion}
use Rattle.rep_op.specs.declared.op.Op.{Op}
use Rattle.jr_journal.specs.Records.{written_all}
use Rattle.jr_journal.specs.Readable.{IsReadable}
use Rattle.jr_journal.proofs.records.Records.as_slice.Goals as goal

pub returns-clause-bytes : goal.returns-clause-bytes
returns-clause-bytes c = c.as_slice.ensures.value ∙ c.self.invariant.are ∙ ap (λ ds. written_all ds) c.self.view_is

pub returns-clause-readable : goal.returns-clause-readable
returns-clause-readable c = subst (λ (ds : List (List Op)). AllByRecursion IsReadable ds) c.self.view_is c.self.invariant.readable
