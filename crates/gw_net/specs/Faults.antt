-- Why a link is given up, by number.
use Rattle.std.specs.Prelude.{ℕ}
use Rattle.gw_net.specs.declared.fault.LinkFault.{LinkFault}
use Rattle.gw_net.specs.declared.fault.LinkFault.TheVariants.{TooLong, Kind, Body, Memory, Failed}

-- the number of a fault
abbrev pub link_fault_number : LinkFault → ℕ
link_fault_number TooLong = 1
link_fault_number Kind = 2
link_fault_number Body = 3
link_fault_number Memory = 4
link_fault_number Failed = 5
