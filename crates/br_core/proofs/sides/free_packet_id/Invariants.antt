use Rattle.std.proofs.Common.{◌≡◌, drop}
use Rattle.br_core.specs.Sides.{free_along}
use Rattle.br_core.proofs.sides.free_packet_id.Given as goal

abbrev pub invariant-loop-look : goal.invariant-loop-look
invariant-loop-look l = free_along (drop l.look-index l.flight) l.free l.flight ≡ free_along l.flight l.id l.flight
