use Rattle.std.proofs.Common.{Some, sym, ap, ◌∙◌}
use Rattle.sn_tables.proofs.TopicPlaces.{found, absent}
use Rattle.sn_tables.proofs.topics.Topics.topic_of.Goals as goal

-- the entry is at its place
pub returns-in-Ok : goal.returns-in-Ok
returns-in-Ok c =
    let there = found c.as_slice-entries.result.now c.in-Ok.at c.args.id c.index-entries-at.result c.in-Ok.ensures.1 in
    rw (← c.self.view_is, ← c.as_slice-entries.ensures.value) (ap (λ e. Some e) c.index-entries-at.is ∙ sym there)

-- it is not there
pub returns-in-Err : goal.returns-in-Err
returns-in-Err c =
    let gap = absent c.as_slice-entries.result.now c.in-Err.field-0 c.args.id c.in-Err.ensures.1 in
    rw (← c.self.view_is, ← c.as_slice-entries.ensures.value) (sym gap)
