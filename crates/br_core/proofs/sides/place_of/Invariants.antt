use Rattle.std.proofs.Common.{◌≡◌, ◌++◌, drop, take}
use Rattle.br_core.specs.Sides.{item_in_flight, left_in_flight}
use Rattle.br_core.proofs.sides.place_of.Given as goal

-- no flight so far has the id
abbrev pub invariant-loop-at : goal.invariant-loop-at
invariant-loop-at l =
    (item_in_flight l.id (drop l.at l.flight) ≡ item_in_flight l.id l.flight)
    × (left_in_flight l.id l.flight ≡ take l.at l.flight ++ left_in_flight l.id (drop l.at l.flight))
