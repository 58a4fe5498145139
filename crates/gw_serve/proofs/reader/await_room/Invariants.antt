use Rattle.std.proofs.Common.{◌≡◌}
use Rattle.gw_serve.proofs.reader.await_room.Given as goal

abbrev pub invariant-loop : goal.invariant-loop
invariant-loop g l =
    (g.W.Wire.failures l.wire ≡ g.W.Wire.failures l.fn.wire)
    × (g.W.Wire.arrivals l.wire ≡ g.W.Wire.arrivals l.fn.wire)
    × (g.W.Wire.drops l.wire ≡ g.W.Wire.drops l.fn.wire)
