use Rattle.std.proofs.Common.{refl, ◌∙◌}
use Rattle.rep_entry.proofs.Empty.{empty_entry}
use Rattle.rep_entry.proofs.entry.Entry.empty.Goals as goal

pub returns-clause-entry : goal.returns-clause-entry
returns-clause-entry c = λ client. empty_entry client _ refl refl refl (c.new-2.ensures ∙ c.new.ensures.items) c.new-3.ensures c.new-4.ensures refl refl
