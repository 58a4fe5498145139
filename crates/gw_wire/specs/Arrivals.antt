-- What came by a receive, counted.
use Rattle.std.specs.Prelude.{ℕ, Option, Some, None, Result, Ok, Err}
use Rattle.gw_wire.specs.declared.traits.Arrival.{Arrival}
use Rattle.gw_wire.specs.declared.traits.Came.{Came}
use Rattle.gw_wire.specs.declared.traits.Came.TheVariants.{Datagram, Nothing, Over}

-- the datagram that a receive brought, if it brought one
abbrev pub arrival_of : Came → Option Arrival
arrival_of (Datagram arrival) = Some arrival
arrival_of Nothing = None
arrival_of Over = None

-- how many datagrams a receive brought: one, or none
abbrev pub came_in : {E : Type 0} → Result Came E → ℕ
came_in (Ok (Datagram arrival)) = 1
came_in (Ok Nothing) = 0
came_in (Ok Over) = 0
came_in (Err fault) = 0
