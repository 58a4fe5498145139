-- What answers are printed as. Each line ends with a line feed.
use Rattle.std.specs.Prelude.{ℕ, List, codes}
use Rattle.std.specs.Fmt.{decimal}
use Rattle.gw_world.specs.declared.world.WorldFault.{WorldFault}
use Rattle.gw_world.specs.declared.world.WorldFault.TheVariants as world_faults
use Rattle.gw_play.specs.Texts.{◌▹◌, line_end}

-- why a run has no result
abbrev pub world_fault_line : WorldFault → List ℕ
world_fault_line (world_faults.NoGateway event) =
    codes "event " ▹ decimal event ▹ codes ": E1" ▹ line_end
world_fault_line (world_faults.NoDelta event) =
    codes "event " ▹ decimal event ▹ codes ": E2" ▹ line_end
world_fault_line world_faults.Memory = codes "E3" ▹ line_end

-- a script whose line of this number is bad
abbrev pub bad_line_text : ℕ → List ℕ
bad_line_text number = codes "line " ▹ decimal number ▹ codes ": not a command" ▹ line_end

-- a script whose line of this number is to be a call and is none
abbrev pub bad_call_text : ℕ → List ℕ
bad_call_text number = codes "line " ▹ decimal number ▹ codes ": not a call" ▹ line_end
