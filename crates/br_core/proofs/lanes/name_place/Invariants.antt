use Rattle.std.proofs.Common.{◌≡◌, drop}
use Rattle.br_core.specs.Lanes.{name_place_from}
use Rattle.br_core.proofs.lanes.name_place.Given as goal

abbrev pub invariant-loop-at : goal.invariant-loop-at
invariant-loop-at l = name_place_from l.at l.name (drop l.at l.names) ≡ name_place_from 0 l.name l.names
