-- The words of the numbers that a gateway shows.
use Rattle.std.specs.Prelude.{ℕ, List, Bool, true, false, codes}
use Rattle.gw_report.specs.declared.count.Kind.{Kind}
use Rattle.gw_report.specs.declared.count.Kind.TheVariants as kinds
use Rattle.gw_report.specs.declared.count.Single.{Single}
use Rattle.gw_report.specs.declared.count.Single.TheVariants as singles
use Rattle.gw_report.specs.declared.count.Column.{Column}
use Rattle.gw_report.specs.declared.count.Column.TheVariants as columns
use Rattle.gw_report.specs.declared.count.Count.{Count}
use Rattle.gw_report.specs.declared.count.Count.TheVariants as counts

-- how Prometheus writes the kind of a number
unfoldable pub kind_word : Kind → List ℕ
kind_word kinds.Counter = codes "counter"
kind_word kinds.Gauge = codes "gauge"

-- the name of a number without a label, without the `nimhazel_` that begins it
unfoldable pub single_name : Single → List ℕ
single_name singles.UpSeconds = codes "up_seconds"
single_name singles.Shift = codes "shift"
single_name singles.ShiftCalls = codes "shift_calls"
single_name singles.DatagramsReceived = codes "datagrams_received_total"
single_name singles.DatagramsDropped = codes "datagrams_dropped_total"
single_name singles.DatagramsUnsent = codes "datagrams_unsent_total"
single_name singles.TurnSeconds = codes "turn_seconds"
single_name singles.TurnSecondsMax = codes "turn_seconds_max"
single_name singles.CompactionSeconds = codes "compaction_seconds"
single_name singles.CompactionSecondsMax = codes "compaction_seconds_max"
single_name singles.Halted = codes "halted"
single_name singles.TickAgeSeconds = codes "tick_age_seconds"
single_name singles.TickSecondsMax = codes "tick_seconds_max"
single_name singles.StoodStillSeconds = codes "stood_still_seconds_total"
single_name singles.LinksTurnedAway = codes "links_turned_away_total"
single_name singles.ClientsOwned = codes "clients_owned"
single_name singles.ClientsBound = codes "clients_bound"
single_name singles.WaitingMessages = codes "waiting_messages"
single_name singles.WaitingMost = codes "waiting_most"
single_name singles.ClientsNearFull = codes "clients_near_full"
single_name singles.ClientsFull = codes "clients_full"
single_name singles.TopicsNearFull = codes "topics_near_full"
single_name singles.StuckSecondsMost = codes "stuck_seconds_most"
single_name singles.SetMark = codes "set_mark"
single_name singles.EventsLost = codes "events_lost_total"
single_name singles.ResidentMemory = codes "process_resident_memory_bytes"
single_name singles.StartTime = codes "process_start_time_seconds"

-- the help of a number without a label
unfoldable pub single_help : Single → List ℕ
single_help singles.UpSeconds = codes "Seconds since the program began."
single_help singles.Shift = codes "Number of the shift."
single_help singles.ShiftCalls = codes "Calls of the last shift that was closed."
single_help singles.DatagramsReceived = codes "Datagrams that came to the socket."
single_help singles.DatagramsDropped = codes "Datagrams that were dropped before they were a call."
single_help singles.DatagramsUnsent = codes "Datagrams that could not be sent."
single_help singles.TurnSeconds = codes "Last time between two shifts, in which nobody is served."
single_help singles.TurnSecondsMax = codes "Longest time between two shifts in the last hour."
single_help singles.CompactionSeconds = codes "Duration of the last compaction."
single_help singles.CompactionSecondsMax = codes "Longest compaction of the last hour."
single_help singles.Halted = codes "1 if the gateway is halted, since a write failed."
single_help singles.TickAgeSeconds = codes "Time since the last round of the clock began."
single_help singles.TickSecondsMax = codes "Longest round of the clock in the last hour."
single_help singles.StoodStillSeconds = codes "Seconds for which the clock stood still."
single_help singles.LinksTurnedAway = codes "Incoming links that were closed at once."
single_help singles.ClientsOwned = codes "Clients that this gateway owns."
single_help singles.ClientsBound = codes "Clients whose address this gateway knows."
single_help singles.WaitingMessages = codes "Messages that wait for all clients."
single_help singles.WaitingMost = codes "Most messages that wait for one client."
single_help singles.ClientsNearFull = codes "Clients with 768 waiting messages or more."
single_help singles.ClientsFull = codes "Clients with 1024 waiting messages. They get no others, despite PUBACK."
single_help singles.TopicsNearFull = codes "Clients with 240 topic ids or more, of 256."
single_help singles.StuckSecondsMost = codes "Longest time that the first message of an active client stayed the same."
single_help singles.SetMark = codes "Hash of the set. Gateways with equal sets have equal marks."
single_help singles.EventsLost = codes "Events that were dropped before they were written."
single_help singles.ResidentMemory = codes "Resident memory of the process."
single_help singles.StartTime = codes "Start of the process, in seconds since 1970."

-- the kind of a number without a label
unfoldable pub single_kind : Single → Kind
single_kind singles.DatagramsReceived = kinds.Counter
single_kind singles.DatagramsDropped = kinds.Counter
single_kind singles.DatagramsUnsent = kinds.Counter
single_kind singles.StoodStillSeconds = kinds.Counter
single_kind singles.LinksTurnedAway = kinds.Counter
single_kind singles.EventsLost = kinds.Counter
single_kind single = kinds.Gauge

-- whether the value is in thousandths
unfoldable pub is_in_thousandths : Single → Bool
is_in_thousandths singles.TurnSeconds = true
is_in_thousandths singles.TurnSecondsMax = true
is_in_thousandths singles.CompactionSeconds = true
is_in_thousandths singles.CompactionSecondsMax = true
is_in_thousandths singles.TickAgeSeconds = true
is_in_thousandths singles.TickSecondsMax = true
is_in_thousandths single = false

-- the name of a number of a place of a link, without the `nimhazel_` that begins it
unfoldable pub column_name : Column → List ℕ
column_name columns.Up = codes "link_up"
column_name columns.Number = codes "link_number"
column_name columns.SinceSeconds = codes "link_since_seconds"
column_name columns.HeardSeconds = codes "link_heard_seconds"
column_name columns.WaitingOctets = codes "link_waiting_octets"
column_name columns.Told = codes "link_told_total"
column_name columns.Taken = codes "link_taken_total"
column_name columns.AnswerOperations = codes "link_answer_operations"
column_name columns.ReceivedOctets = codes "link_received_octets_total"
column_name columns.SentOctets = codes "link_sent_octets_total"
column_name columns.DialsFailed = codes "dials_failed_total"

-- the help of a number of a place of a link
unfoldable pub column_help : Column → List ℕ
column_help columns.Up = codes "1 if a link is up."
column_help columns.Number = codes "Number of the gateway at the other end, 0 if unknown."
column_help columns.SinceSeconds = codes "Seconds since the link was made."
column_help columns.HeardSeconds = codes "Seconds since anything came over the link."
column_help columns.WaitingOctets = codes "Octets that wait to go out, without those of an answer."
column_help columns.Told = codes "Deltas that were sent."
column_help columns.Taken = codes "Deltas that came and were taken."
column_help columns.AnswerOperations = codes "Operations of the last answer that was given."
column_help columns.ReceivedOctets = codes "Octets that came."
column_help columns.SentOctets = codes "Octets that went out."
column_help columns.DialsFailed = codes "Dials that made no link."

-- the kind of a number of a place of a link
unfoldable pub column_kind : Column → Kind
column_kind columns.Told = kinds.Counter
column_kind columns.Taken = kinds.Counter
column_kind columns.ReceivedOctets = kinds.Counter
column_kind columns.SentOctets = kinds.Counter
column_kind columns.DialsFailed = kinds.Counter
column_kind column = kinds.Gauge

-- the name of numbers with labels, without the `nimhazel_` that begins it
unfoldable pub count_name : Count → List ℕ
count_name counts.FramesReceived = codes "frames_received_total"
count_name counts.DatagramsSent = codes "datagrams_sent_total"
count_name counts.Calls = codes "calls_total"
count_name counts.Compactions = codes "compactions_total"
count_name counts.Reopenings = codes "reopenings_total"
count_name counts.Clients = codes "clients"
count_name counts.JournalOctets = codes "journal_octets"
count_name counts.MessagesKnown = codes "messages_known"
count_name counts.LinkRefused = codes "link_refused_total"

-- the help of numbers with labels
unfoldable pub count_help : Count → List ℕ
count_help counts.FramesReceived = codes "Datagrams that came, by message type."
count_help counts.DatagramsSent = codes "Datagrams that went out, by message type."
count_help counts.Calls = codes "Calls of closed shifts, by kind and answer."
count_help counts.Compactions = codes "Compactions of the journal, by result."
count_help counts.Reopenings = codes "Openings while the program runs. Each disconnects every client."
count_help counts.Clients = codes "Clients that the gateway knows, by presence."
count_help counts.JournalOctets = codes "Octets of each file of the journal."
count_help counts.MessagesKnown = codes "Messages of each origin that are known here."
count_help counts.LinkRefused = codes "Deltas that came and were refused, by fault."

-- the kind of numbers with labels
unfoldable pub count_kind : Count → Kind
count_kind counts.Clients = kinds.Gauge
count_kind counts.JournalOctets = kinds.Gauge
count_kind counts.MessagesKnown = kinds.Gauge
count_kind count = kinds.Counter
