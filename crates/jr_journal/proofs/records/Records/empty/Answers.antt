use Rattle.jr_journal.proofs.Several.{none_are, none_in}
use Rattle.jr_journal.proofs.records.Records.empty.Goals as goal

-- no bytes are no records
pub invariant_of-result : goal.invariant_of-result
invariant_of-result c = none_are c.new.result.items c.new.ensures.items

pub returns : goal.returns
returns c = none_in c.new.result.items c.new.ensures.items
