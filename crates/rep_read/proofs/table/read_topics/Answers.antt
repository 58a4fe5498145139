use Rattle.sn_tables.specs.Topics.{topic_cmp}
use Rattle.rep_read.specs.Reading.{topics_at, entry_at}
use Rattle.rep_read.proofs.Many.{table_refused}
use Rattle.rep_read.proofs.table.read_topics.Goals as goal

pub returns-in-None : goal.returns-in-None
unfolding topics_at
returns-in-None c =
    table_refused topic_cmp entry_at c.args.bytes.now c.in_ok-count.count c.in_ok-count.rest.now c.in_ok-entries.entries.items c.in_ok-entries.rest.now c.in_ok-count.ensures c.in_ok-entries.ensures c.in-None.ensures
