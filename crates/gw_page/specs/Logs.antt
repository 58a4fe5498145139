-- The lines of events.
use Rattle.std.specs.Prelude.{ℕ, List, codes, flat_map}
use Rattle.std.specs.Fmt.{decimal}
use Rattle.hex.specs.Hex.{encode_lower}
use Rattle.gw_report.specs.declared.event.Alarm.{Alarm}
use Rattle.gw_report.specs.declared.event.Alarm.TheVariants as alarms
use Rattle.gw_report.specs.declared.event.Warning.{Warning}
use Rattle.gw_report.specs.declared.event.Warning.TheVariants as warnings
use Rattle.gw_report.specs.declared.event.Note.{Note}
use Rattle.gw_report.specs.declared.event.Note.TheVariants as notes
use Rattle.gw_report.specs.declared.event.Detail.{Detail}
use Rattle.gw_report.specs.declared.event.Detail.TheVariants as details
use Rattle.gw_report.specs.declared.event.What.{What}
use Rattle.gw_report.specs.declared.event.What.TheVariants as events
use Rattle.gw_report.specs.declared.event.Event.{Event}
use Rattle.gw_report.specs.Events.{level_of, level_number, level_word}
use Rattle.gw_page.specs.Texts.{◌▹◌, line_end, tab}

-- another gateway says the number of this one
unfoldable pub same_number_text : ℕ → ℕ → List ℕ
same_number_text number times =
    codes "another gateway has the number " ▹ decimal number ▹ codes " of this one: "
    ▹ decimal times ▹ codes " times"

-- deltas contradict what is kept
unfoldable pub conflict_text : ℕ → ℕ → List ℕ
conflict_text number times =
    decimal times ▹ codes " deltas of gateway " ▹ decimal number ▹ codes " contradict what is kept"

-- a write failed
unfoldable pub halted_text : List ℕ
halted_text = codes "a write failed, and the gateway is halted"

-- the gateway was opened again
unfoldable pub reopened_text : List ℕ
reopened_text = codes "the gateway was opened again, and all clients are disconnected"

-- the journal is as it was
unfoldable pub not_compacted_text : List ℕ
not_compacted_text = codes "the journal could not be written anew"

-- a gateway may not be linked
unfoldable pub stranger_text : ℕ → ℕ → List ℕ
stranger_text number times =
    codes "gateway " ▹ decimal number ▹ codes " is not among numbers, and is not linked: "
    ▹ decimal times ▹ codes " times"

-- deltas met a limit
unfoldable pub delta_full_text : ℕ → ℕ → List ℕ
delta_full_text number times =
    decimal times ▹ codes " deltas of gateway " ▹ decimal number ▹ codes " met a limit"

-- a gateway has one more link
unfoldable pub twice_text : ℕ → ℕ → List ℕ
twice_text number times =
    codes "gateway " ▹ decimal number ▹ codes " was linked once more while it was linked: "
    ▹ decimal times ▹ codes " times"

-- incoming links were closed
unfoldable pub turned_away_text : ℕ → List ℕ
turned_away_text times =
    decimal times ▹ codes " links were closed at once, as there is no place for them"

-- a client gets no further messages
unfoldable pub client_full_text : List ℕ → List ℕ
client_full_text client =
    codes "client " ▹ encode_lower client
    ▹ codes " has as many waiting messages as there may be, and gets no others"

-- a client has nearly all topic ids
unfoldable pub topics_near_full_text : List ℕ → ℕ → List ℕ
topics_near_full_text client topics =
    codes "client " ▹ encode_lower client ▹ codes " has " ▹ decimal topics
    ▹ codes " topic ids of 256"

-- nearly all clients are there
unfoldable pub clients_near_full_text : ℕ → List ℕ
clients_near_full_text clients = decimal clients ▹ codes " clients are known of 1024"

-- datagrams were dropped
unfoldable pub dropped_text : ℕ → List ℕ
dropped_text times = decimal times ▹ codes " datagrams were dropped"

-- nothing goes out
unfoldable pub nothing_sent_text : List ℕ
nothing_sent_text = codes "for a minute nothing could be sent, and no time passes for clients"

-- the clock stood still
unfoldable pub stood_still_text : ℕ → List ℕ
stood_still_text seconds = codes "the clock stood still for " ▹ decimal seconds ▹ codes " seconds"

-- a link is gone
unfoldable pub lost_text : ℕ → List ℕ
lost_text number = codes "the link to gateway " ▹ decimal number ▹ codes " is lost"

-- a link is made
unfoldable pub made_text : ℕ → List ℕ
made_text number = codes "a link to gateway " ▹ decimal number ▹ codes " is made"

-- a shift is closed
unfoldable pub closed_text : ℕ → ℕ → ℕ → List ℕ
closed_text shift calls thousandths =
    codes "shift " ▹ decimal shift ▹ codes " had " ▹ decimal calls ▹ codes " calls and took "
    ▹ decimal thousandths ▹ codes " ms to turn"

-- a client has connected
unfoldable pub connected_text : List ℕ → List ℕ
connected_text client = codes "client " ▹ encode_lower client ▹ codes " connected"

-- a client is lost
unfoldable pub client_lost_text : List ℕ → List ℕ
client_lost_text client = codes "client " ▹ encode_lower client ▹ codes " is lost"

-- another gateway has a client
unfoldable pub taken_over_text : List ℕ → ℕ → List ℕ
taken_over_text client number =
    codes "client " ▹ encode_lower client ▹ codes " was taken over by gateway " ▹ decimal number

-- an event on which somebody must act
abbrev pub alarm_text : Alarm → List ℕ
alarm_text (alarms.SameNumber number times) = same_number_text number times
alarm_text (alarms.Conflict number times) = conflict_text number times
alarm_text (alarms.Twice number times) = twice_text number times
alarm_text alarms.Halted = halted_text

-- an event at which somebody should look
abbrev pub warning_text : Warning → List ℕ
warning_text warnings.Reopened = reopened_text
warning_text warnings.NotCompacted = not_compacted_text
warning_text (warnings.Stranger number times) = stranger_text number times
warning_text (warnings.DeltaFull number times) = delta_full_text number times
warning_text (warnings.TurnedAway times) = turned_away_text times
warning_text (warnings.ClientFull client) = client_full_text client
warning_text (warnings.TopicsNearFull client topics) = topics_near_full_text client topics
warning_text (warnings.ClientsNearFull clients) = clients_near_full_text clients
warning_text (warnings.Dropped times) = dropped_text times
warning_text warnings.NothingSent = nothing_sent_text
warning_text (warnings.StoodStill seconds) = stood_still_text seconds
warning_text (warnings.LinkLost number) = lost_text number

-- an event of a field as it should be
abbrev pub note_text : Note → List ℕ
note_text (notes.LinkMade number) = made_text number
note_text (notes.ShiftClosed shift calls thousandths) = closed_text shift calls thousandths

-- an event of one client
abbrev pub detail_text : Detail → List ℕ
detail_text (details.Connected client) = connected_text client
detail_text (details.Lost client) = client_lost_text client
detail_text (details.TakenOver client number) = taken_over_text client number

-- what happened
abbrev pub what_text : What → List ℕ
what_text (events.Alarm alarm) = alarm_text alarm
what_text (events.Warning warning) = warning_text warning
what_text (events.Note note) = note_text note
what_text (events.Detail detail) = detail_text detail

-- the line of an event on the page: moment, level, what happened
abbrev pub event_text : Event → List ℕ
event_text event =
    decimal event.moment ▹ tab ▹ level_word (level_of event.what) ▹ tab ▹ what_text event.what
    ▹ line_end

-- the line of an event for the journal of the system, without its end: its level as a number, and
-- what happened
abbrev pub entry_text : Event → List ℕ
entry_text event =
    codes "<" ▹ decimal (level_number (level_of event.what)) ▹ codes ">" ▹ what_text event.what

-- the lines of events
abbrev pub log_text : List Event → List ℕ
log_text events = flat_map event_text events
