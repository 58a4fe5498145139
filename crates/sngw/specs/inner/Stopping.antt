-- The statuses of the program.
use Rattle.std.specs.Prelude.{ℕ}
use Rattle.sngw.specs.declared.stop.Stop.{Stop}
use Rattle.sngw.specs.declared.stop.Stop.TheVariants as stops

-- 1: its arguments or settings are not good, or its number was used; 2: its journal is not; 3 to 5:
-- socket, memory or history failed
abbrev pub status_of : Stop → ℕ
status_of stops.Arguments = 1
status_of stops.File = 1
status_of stops.Text = 1
status_of (stops.Key key) = 1
status_of stops.Number = 1
status_of stops.Disk = 2
status_of stops.NoMemory = 2
status_of stops.Opening = 2
status_of (stops.Reopening number) = 2
status_of stops.Socket = 3
status_of stops.Memory = 4
status_of stops.History = 5
