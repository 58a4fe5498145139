-- The levels of events.
use Rattle.std.specs.Prelude.{ℕ, List, codes}
use Rattle.gw_report.specs.declared.event.Level.{Level}
use Rattle.gw_report.specs.declared.event.Level.TheVariants as levels
use Rattle.gw_report.specs.declared.event.What.{What}
use Rattle.gw_report.specs.declared.event.What.TheVariants as events

-- the number of a level, as syslog has it
abbrev pub level_number : Level → ℕ
level_number levels.Error = 3
level_number levels.Warning = 4
level_number levels.Info = 6
level_number levels.Debug = 7

-- how a level is written
unfoldable pub level_word : Level → List ℕ
level_word levels.Error = codes "err"
level_word levels.Warning = codes "warning"
level_word levels.Info = codes "info"
level_word levels.Debug = codes "debug"

-- how bad an event is
abbrev pub level_of : What → Level
level_of (events.Alarm alarm) = levels.Error
level_of (events.Warning warning) = levels.Warning
level_of (events.Note note) = levels.Info
level_of (events.Detail detail) = levels.Debug
