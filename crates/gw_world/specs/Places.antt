-- The place of a gateway among others.
use Rattle.std.specs.Prelude.{ℕ, ◌+◌, ◌==◌, if◌then◌else◌, List, [], ◌∷◌, Option, Some, None}
use Rattle.gw_event.specs.Gateways.{Gateway}

-- the place of the gateway of this number, if the first of the list has place i
abbrev pub place_from : ℕ → ℕ → List Gateway → Option ℕ
place_from number i [] = None
place_from number i (gateway ∷ rest) =
    if gateway.config.gateway == number then Some i else place_from number (i + 1) rest

-- the place of the gateway of this number; the first, if two have it
abbrev pub place_of : ℕ → List Gateway → Option ℕ
place_of number gateways = place_from number 0 gateways
