use Rattle.std.specs.Ordering.{nat_cmp}
use Rattle.std.specs.Cmp.{nat_cmp_total}
use Rattle.sn_tables.proofs.Ascending.{from_test}
use Rattle.sn_tables.proofs.Places.{placed}
use Rattle.sn_tables.proofs.received.place.Goals as goal

pub returns : goal.returns
returns c =
    let up = from_test nat_cmp nat_cmp_total c.args.ids.now c.requires in
    placed (λ n. n) nat_cmp nat_cmp_total c.args.id c.args.ids.now up c.binary_search.result c.binary_search.ensures.bound c.binary_search.ensures.position
