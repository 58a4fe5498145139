use Rattle.sn_tables.proofs.Unused.{least_in_table}
use Rattle.sn_tables.proofs.topics.Topics.free_id.Goals as goal

pub returns-clause-least : goal.returns-clause-least
returns-clause-least c =
    rw (← c.self.view_is, c.least_unused.ensures.value, c.as_slice.ensures.value) (least_in_table c.self.inside.entries.items c.self.invariant)
