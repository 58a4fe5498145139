-- Why a run has no result, by number.
use Rattle.std.specs.Prelude.{ℕ}
use Rattle.gw_world.specs.declared.world.WorldFault.{WorldFault}
use Rattle.gw_world.specs.declared.world.WorldFault.TheVariants.{NoGateway, NoDelta, Memory}

-- the number of a fault
abbrev pub world_fault_number : WorldFault → ℕ
world_fault_number (NoGateway event) = 1
world_fault_number (NoDelta event) = 2
world_fault_number Memory = 3
