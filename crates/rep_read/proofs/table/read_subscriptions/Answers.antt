use Rattle.sn_tables.specs.Subscriptions.{subscription_cmp}
use Rattle.rep_read.specs.Reading.{subscriptions_at, subscription_at}
use Rattle.rep_read.proofs.Many.{table_refused}
use Rattle.rep_read.proofs.table.read_subscriptions.Goals as goal

pub returns-in-None : goal.returns-in-None
unfolding subscriptions_at
returns-in-None c =
    table_refused subscription_cmp subscription_at c.args.bytes.now c.in_ok-count.count c.in_ok-count.rest.now c.in_ok-entries.entries.items c.in_ok-entries.rest.now c.in_ok-count.ensures c.in_ok-entries.ensures c.in-None.ensures
