use Rattle.std.proofs.Common.{get_or, eq-eqb}
use Rattle.br_core.specs.declared.item.Flight.{Flight}
use Rattle.br_core.proofs.Places.{found, is-at, left}
use Rattle.br_core.proofs.sides.place_of.Goals as goal

pub returns-then-flight-at : goal.returns-then-flight-at
returns-then-flight-at c =
    let f : Flight = get_or c.args.flight.now c.loop-at.at c.index-flight-at.result in
    let there = is-at c.index-flight-at.result c.args.flight.now c.loop-at.at c.loop-at-test.true in
    let same = eq-eqb f.id c.args.id c.if-flight-at.true in
    (c.loop-at-test.true, found c.args.id c.args.flight.now c.loop-at.at f there same c.loop-at.invariant.0, left c.args.id c.args.flight.now c.loop-at.at f there same c.loop-at.invariant.1)
