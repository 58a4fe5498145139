-- Each number without a label, and each of a link, stands in the list of them.
use Rattle.std.specs.Prelude.{slice_get}
use Rattle.std.proofs.Common.{◌≡◌, ℕ, Option, Some, refl}
use Rattle.gw_report.specs.declared.count.Single.{Single}
use Rattle.gw_report.specs.declared.count.Single.TheVariants as singles
use Rattle.gw_report.specs.declared.count.Column.{Column}
use Rattle.gw_report.specs.declared.count.Column.TheVariants as columns
use Rattle.gw_report.specs.declared.numbers.TheConstants.{SINGLES, COLUMNS}

pub single_stands : (single : Single) → (place : ℕ) × (slice_get SINGLES place ≡ Some single)
single_stands singles.UpSeconds = (0, refl)
single_stands singles.Shift = (1, refl)
single_stands singles.ShiftCalls = (2, refl)
single_stands singles.DatagramsReceived = (3, refl)
single_stands singles.DatagramsDropped = (4, refl)
single_stands singles.DatagramsUnsent = (5, refl)
single_stands singles.TurnSeconds = (6, refl)
single_stands singles.TurnSecondsMax = (7, refl)
single_stands singles.CompactionSeconds = (8, refl)
single_stands singles.CompactionSecondsMax = (9, refl)
single_stands singles.Halted = (10, refl)
single_stands singles.TickAgeSeconds = (11, refl)
single_stands singles.TickSecondsMax = (12, refl)
single_stands singles.StoodStillSeconds = (13, refl)
single_stands singles.LinksTurnedAway = (14, refl)
single_stands singles.ClientsOwned = (15, refl)
single_stands singles.ClientsBound = (16, refl)
single_stands singles.WaitingMessages = (17, refl)
single_stands singles.WaitingMost = (18, refl)
single_stands singles.ClientsNearFull = (19, refl)
single_stands singles.ClientsFull = (20, refl)
single_stands singles.TopicsNearFull = (21, refl)
single_stands singles.StuckSecondsMost = (22, refl)
single_stands singles.SetMark = (23, refl)
single_stands singles.EventsLost = (24, refl)
single_stands singles.ResidentMemory = (25, refl)
single_stands singles.StartTime = (26, refl)

pub column_stands : (column : Column) → (place : ℕ) × (slice_get COLUMNS place ≡ Some column)
column_stands columns.Up = (0, refl)
column_stands columns.Number = (1, refl)
column_stands columns.SinceSeconds = (2, refl)
column_stands columns.HeardSeconds = (3, refl)
column_stands columns.WaitingOctets = (4, refl)
column_stands columns.Told = (5, refl)
column_stands columns.Taken = (6, refl)
column_stands columns.AnswerOperations = (7, refl)
column_stands columns.ReceivedOctets = (8, refl)
column_stands columns.SentOctets = (9, refl)
column_stands columns.DialsFailed = (10, refl)
