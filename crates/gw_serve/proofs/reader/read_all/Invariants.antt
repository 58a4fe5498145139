use Rattle.std.proofs.Common.{◌≡◌, ◌≤◌, ◌+◌, None}
use Rattle.crossbeam_channel.specs.Claims.{view, IsSeatAt}
use Rattle.crossbeam_channel.specs.Ends.{sends_on}
use Rattle.gw_serve.specs.Count.{one_to}
use Rattle.gw_serve.specs.inner.Queue.{hand}
use Rattle.gw_serve.proofs.reader.read_all.Given as goal

abbrev pub invariant-loop-turn : goal.invariant-loop-turn
invariant-loop-turn g l =
    IsSeatAt (sends_on l.sender) l.ticket
    × (view l.ticket ≡ hand (view l.fn.ticket).parts (one_to l.count) (view l.fn.ticket).taken)
    × (l.count ≤ l.turn)
    × (g.W.Wire.failures l.fn.wire ≤ g.W.Wire.failures l.wire)
    × (l.fault ≡ None)
    × (g.W.Wire.drops l.fn.wire ≤ g.W.Wire.drops l.wire)
    × (g.W.Wire.arrivals l.fn.wire + l.count + g.W.Wire.drops l.wire ≡ g.W.Wire.arrivals l.wire + g.W.Wire.drops l.fn.wire)
