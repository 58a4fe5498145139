-- Which number of a report is of which name.
use Rattle.std.specs.Prelude.{ℕ}
use Rattle.gw_report.specs.declared.count.Single.{Single}
use Rattle.gw_report.specs.declared.count.Single.TheVariants as singles
use Rattle.gw_report.specs.declared.count.Column.{Column}
use Rattle.gw_report.specs.declared.count.Column.TheVariants as columns
use Rattle.gw_report.specs.declared.numbers.Singles.{Singles}
use Rattle.gw_report.specs.declared.numbers.Link.{Link}

-- the number of a name that has no label
unfoldable pub single_value : Singles → Single → ℕ
single_value s singles.UpSeconds = s.up_seconds
single_value s singles.Shift = s.shift
single_value s singles.ShiftCalls = s.shift_calls
single_value s singles.DatagramsReceived = s.datagrams_received
single_value s singles.DatagramsDropped = s.datagrams_dropped
single_value s singles.DatagramsUnsent = s.datagrams_unsent
single_value s singles.TurnSeconds = s.turn_seconds
single_value s singles.TurnSecondsMax = s.turn_seconds_max
single_value s singles.CompactionSeconds = s.compaction_seconds
single_value s singles.CompactionSecondsMax = s.compaction_seconds_max
single_value s singles.Halted = s.halted
single_value s singles.TickAgeSeconds = s.tick_age_seconds
single_value s singles.TickSecondsMax = s.tick_seconds_max
single_value s singles.StoodStillSeconds = s.stood_still_seconds
single_value s singles.LinksTurnedAway = s.links_turned_away
single_value s singles.ClientsOwned = s.clients_owned
single_value s singles.ClientsBound = s.clients_bound
single_value s singles.WaitingMessages = s.waiting_messages
single_value s singles.WaitingMost = s.waiting_most
single_value s singles.ClientsNearFull = s.clients_near_full
single_value s singles.ClientsFull = s.clients_full
single_value s singles.TopicsNearFull = s.topics_near_full
single_value s singles.StuckSecondsMost = s.stuck_seconds_most
single_value s singles.SetMark = s.set_mark
single_value s singles.EventsLost = s.events_lost
single_value s singles.ResidentMemory = s.resident_memory
single_value s singles.StartTime = s.start_time

-- the number of a name, of a place of a link
unfoldable pub link_value : Link → Column → ℕ
link_value link columns.Up = link.up
link_value link columns.Number = link.number
link_value link columns.SinceSeconds = link.since_seconds
link_value link columns.HeardSeconds = link.heard_seconds
link_value link columns.WaitingOctets = link.waiting_octets
link_value link columns.Told = link.told
link_value link columns.Taken = link.taken
link_value link columns.AnswerOperations = link.answer_operations
link_value link columns.ReceivedOctets = link.received_octets
link_value link columns.SentOctets = link.sent_octets
link_value link columns.DialsFailed = link.dials_failed
