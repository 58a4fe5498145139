use Rattle.std.specs.Ordering.{nat_cmp}
use Rattle.std.specs.Int.{w16}
use Rattle.rep_read.specs.Reading.{received_at, number_at}
use Rattle.rep_read.proofs.Many.{table_refused}
use Rattle.rep_read.proofs.table.read_received.Goals as goal

pub returns-in-None : goal.returns-in-None
unfolding received_at
returns-in-None c =
    table_refused nat_cmp (number_at w16) c.args.bytes.now c.in_ok-count.count c.in_ok-count.rest.now c.in_ok-entries.entries.items c.in_ok-entries.rest.now c.in_ok-count.ensures c.in_ok-entries.ensures c.in-None.ensures
