-- The lines of a script.
use Rattle.std.specs.Prelude.{Result, Ok, Err}
use Rattle.gw_script.specs.declared.command.Command.{Command}
use Rattle.gw_script.specs.declared.fault.LineFault.{LineFault}
use Rattle.gw_script.specs.declared.fault.LineFault.TheVariants as faults

-- The answer of a reader: a command that is as the fact says. If the reader refuses, there is no
-- such command.
abbrev pub ReadsCommand : (Command → Type 0) → Result Command LineFault → Type 0
ReadsCommand IsSaid (Ok command) = IsSaid command
ReadsCommand IsSaid (Err faults.NotACommand) = (command : Command) → IsSaid command → ⊥
ReadsCommand IsSaid (Err faults.Memory) = Unit {0}
