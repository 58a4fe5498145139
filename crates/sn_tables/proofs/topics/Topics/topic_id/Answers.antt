use Rattle.sn_tables.proofs.Named.{least_id}
use Rattle.sn_tables.proofs.topics.Topics.topic_id.Goals as goal

pub returns-in-Some-clause-least : goal.returns-in-Some-clause-least
returns-in-Some-clause-least c =
    rw (← c.self.view_is) (least_id c.args.name.now c.self.inside.entries.items c.self.invariant c.in-Some.entry.now (rw c.as_slice.ensures.value at c.in-Some.ensures))
