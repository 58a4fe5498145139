use Rattle.std.proofs.Common.{◌≡◌, drop, fold}
use Rattle.sn_tick.specs.Ticking.{advertised_to}
use Rattle.sn_tick.proofs.ticking.advertise_all.Given as goal

abbrev pub invariant-loop-address : goal.invariant-loop-address
invariant-loop-address l =
    fold (advertised_to l.gateway l.advertise) l.draft (drop l.address-index l.field)
    ≡ fold (advertised_to l.gateway l.advertise) l.fn.draft l.field
