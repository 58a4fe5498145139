-- The numbers' text is lines of names, labels and numbers.
use Rattle.std.proofs.Common.{◌≡◌, ◌⊎◌, inl, inr, ℕ, List, [], ◌∷◌, ◌++◌, Bool, false, refl, sym, ◌∙◌, ap, ap₂, append-nil}
use Rattle.std.specs.Prelude.{All, IsTrue, codes, flat_map}
use Rattle.std.specs.List.{list_all}
use Rattle.std.specs.Fmt.{decimal}
use Rattle.std.proofs.lemmas.List.Elements.{All-nil, All-cons, All-append}
use Rattle.std.proofs.lemmas.Grind.{flat_map-append}
use Rattle.sn_frame.specs.declared.msg_type.MsgType.{MsgType}
use Rattle.sn_frame.specs.declared.msg_type.MsgType.TheVariants as frames
use Rattle.sn_session.specs.declared.presence.Presence.{Presence}
use Rattle.sn_session.specs.declared.presence.Presence.TheVariants as presences
use Rattle.gw_report.specs.declared.count.Single.{Single}
use Rattle.gw_report.specs.declared.count.Single.TheVariants as singles
use Rattle.gw_report.specs.declared.count.Column.{Column}
use Rattle.gw_report.specs.declared.count.Column.TheVariants as columns
use Rattle.gw_report.specs.declared.count.Count.{Count}
use Rattle.gw_report.specs.declared.count.Count.TheVariants as counts
use Rattle.gw_report.specs.declared.count.Kind.{Kind}
use Rattle.gw_report.specs.declared.count.Kind.TheVariants as kinds
use Rattle.gw_report.specs.declared.label.CallKind.{CallKind}
use Rattle.gw_report.specs.declared.label.CallKind.TheVariants as calls
use Rattle.gw_report.specs.declared.label.CallAnswer.{CallAnswer}
use Rattle.gw_report.specs.declared.label.CallAnswer.TheVariants as answers
use Rattle.gw_report.specs.declared.label.DeltaFault.{DeltaFault}
use Rattle.gw_report.specs.declared.label.DeltaFault.TheVariants as faults
use Rattle.gw_report.specs.declared.label.Place.{Place}
use Rattle.gw_report.specs.declared.label.Place.TheVariants as places
use Rattle.gw_report.specs.declared.label.Label.{Label}
use Rattle.gw_report.specs.declared.label.Label.TheVariants as labels
use Rattle.gw_report.specs.declared.numbers.Sample.{Sample}
use Rattle.gw_report.specs.declared.numbers.Link.{Link}
use Rattle.gw_report.specs.declared.numbers.Singles.{Singles}
use Rattle.gw_report.specs.declared.numbers.Numbers.{Numbers}
use Rattle.gw_report.specs.declared.numbers.TheConstants.{SINGLES as all_singles, COLUMNS as all_columns}
use Rattle.gw_report.specs.Words.{kind_word, single_name, single_help, single_kind, is_in_thousandths, column_name, column_help, column_kind, count_name, count_help, count_kind}
use Rattle.gw_report.specs.Labels.{frame_word, call_word, answer_word, fault_word, presence_word}
use Rattle.gw_report.specs.Numbers.{single_value, link_value}
use Rattle.gw_page.specs.Texts.{◌▹◌, line_end}
use Rattle.gw_page.specs.Expositions.{pair_text, pairs_text, label_text, place_text, help_line, type_line, head_text, number_line, sample_text, count_text, single_text, link_text, column_text, traffic_text, state_text, exposition_of}
use Rattle.gw_page.specs.Lines.{is_name_octet, is_word_octet, is_help_octet, IsMetricName, IsWord, IsLabel, IsHelp, IsTypeLine, IsSample, IsExposition}

-- each name, and each help, is one
single_is_name : (it : Single) → IsMetricName (single_name it)
unfolding single_name
single_is_name singles.UpSeconds = refl
single_is_name singles.Shift = refl
single_is_name singles.ShiftCalls = refl
single_is_name singles.DatagramsReceived = refl
single_is_name singles.DatagramsDropped = refl
single_is_name singles.DatagramsUnsent = refl
single_is_name singles.TurnSeconds = refl
single_is_name singles.TurnSecondsMax = refl
single_is_name singles.CompactionSeconds = refl
single_is_name singles.CompactionSecondsMax = refl
single_is_name singles.Halted = refl
single_is_name singles.TickAgeSeconds = refl
single_is_name singles.TickSecondsMax = refl
single_is_name singles.StoodStillSeconds = refl
single_is_name singles.LinksTurnedAway = refl
single_is_name singles.ClientsOwned = refl
single_is_name singles.ClientsBound = refl
single_is_name singles.WaitingMessages = refl
single_is_name singles.WaitingMost = refl
single_is_name singles.ClientsNearFull = refl
single_is_name singles.ClientsFull = refl
single_is_name singles.TopicsNearFull = refl
single_is_name singles.StuckSecondsMost = refl
single_is_name singles.SetMark = refl
single_is_name singles.EventsLost = refl
single_is_name singles.ResidentMemory = refl
single_is_name singles.StartTime = refl

single_is_help : (it : Single) → IsTrue (list_all is_help_octet (single_help it))
unfolding single_help
single_is_help singles.UpSeconds = refl
single_is_help singles.Shift = refl
single_is_help singles.ShiftCalls = refl
single_is_help singles.DatagramsReceived = refl
single_is_help singles.DatagramsDropped = refl
single_is_help singles.DatagramsUnsent = refl
single_is_help singles.TurnSeconds = refl
single_is_help singles.TurnSecondsMax = refl
single_is_help singles.CompactionSeconds = refl
single_is_help singles.CompactionSecondsMax = refl
single_is_help singles.Halted = refl
single_is_help singles.TickAgeSeconds = refl
single_is_help singles.TickSecondsMax = refl
single_is_help singles.StoodStillSeconds = refl
single_is_help singles.LinksTurnedAway = refl
single_is_help singles.ClientsOwned = refl
single_is_help singles.ClientsBound = refl
single_is_help singles.WaitingMessages = refl
single_is_help singles.WaitingMost = refl
single_is_help singles.ClientsNearFull = refl
single_is_help singles.ClientsFull = refl
single_is_help singles.TopicsNearFull = refl
single_is_help singles.StuckSecondsMost = refl
single_is_help singles.SetMark = refl
single_is_help singles.EventsLost = refl
single_is_help singles.ResidentMemory = refl
single_is_help singles.StartTime = refl

column_is_name : (it : Column) → IsMetricName (column_name it)
unfolding column_name
column_is_name columns.Up = refl
column_is_name columns.Number = refl
column_is_name columns.SinceSeconds = refl
column_is_name columns.HeardSeconds = refl
column_is_name columns.WaitingOctets = refl
column_is_name columns.Told = refl
column_is_name columns.Taken = refl
column_is_name columns.AnswerOperations = refl
column_is_name columns.ReceivedOctets = refl
column_is_name columns.SentOctets = refl
column_is_name columns.DialsFailed = refl

column_is_help : (it : Column) → IsTrue (list_all is_help_octet (column_help it))
unfolding column_help
column_is_help columns.Up = refl
column_is_help columns.Number = refl
column_is_help columns.SinceSeconds = refl
column_is_help columns.HeardSeconds = refl
column_is_help columns.WaitingOctets = refl
column_is_help columns.Told = refl
column_is_help columns.Taken = refl
column_is_help columns.AnswerOperations = refl
column_is_help columns.ReceivedOctets = refl
column_is_help columns.SentOctets = refl
column_is_help columns.DialsFailed = refl

count_is_name : (it : Count) → IsMetricName (count_name it)
unfolding count_name
count_is_name counts.FramesReceived = refl
count_is_name counts.DatagramsSent = refl
count_is_name counts.Calls = refl
count_is_name counts.Compactions = refl
count_is_name counts.Reopenings = refl
count_is_name counts.Clients = refl
count_is_name counts.JournalOctets = refl
count_is_name counts.MessagesKnown = refl
count_is_name counts.LinkRefused = refl

count_is_help : (it : Count) → IsTrue (list_all is_help_octet (count_help it))
unfolding count_help
count_is_help counts.FramesReceived = refl
count_is_help counts.DatagramsSent = refl
count_is_help counts.Calls = refl
count_is_help counts.Compactions = refl
count_is_help counts.Reopenings = refl
count_is_help counts.Clients = refl
count_is_help counts.JournalOctets = refl
count_is_help counts.MessagesKnown = refl
count_is_help counts.LinkRefused = refl

is_kind : (kind : Kind) → IsMetricName (kind_word kind)
unfolding kind_word
is_kind kinds.Counter = refl
is_kind kinds.Gauge = refl

-- each word of a label is one
word : (text : List ℕ) → IsTrue (list_all is_word_octet text) → IsWord text
word text plain = (text, plain, inl refl)

frame_is_word : (frame : MsgType) → IsTrue (list_all is_word_octet (frame_word frame))
unfolding frame_word
frame_is_word frames.Advertise = refl
frame_is_word frames.SearchGw = refl
frame_is_word frames.GwInfo = refl
frame_is_word frames.Connect = refl
frame_is_word frames.ConnAck = refl
frame_is_word frames.WillTopicReq = refl
frame_is_word frames.WillTopic = refl
frame_is_word frames.WillMsgReq = refl
frame_is_word frames.WillMsg = refl
frame_is_word frames.Register = refl
frame_is_word frames.RegAck = refl
frame_is_word frames.Publish = refl
frame_is_word frames.PubAck = refl
frame_is_word frames.PubComp = refl
frame_is_word frames.PubRec = refl
frame_is_word frames.PubRel = refl
frame_is_word frames.Subscribe = refl
frame_is_word frames.SubAck = refl
frame_is_word frames.Unsubscribe = refl
frame_is_word frames.UnsubAck = refl
frame_is_word frames.PingReq = refl
frame_is_word frames.PingResp = refl
frame_is_word frames.Disconnect = refl
frame_is_word frames.WillTopicUpd = refl
frame_is_word frames.WillTopicResp = refl
frame_is_word frames.WillMsgUpd = refl
frame_is_word frames.WillMsgResp = refl

presence_is_word : (it : Presence) → IsTrue (list_all is_word_octet (presence_word it))
presence_is_word presences.Active = refl
presence_is_word presences.Asleep = refl
presence_is_word presences.Awake = refl
presence_is_word presences.Disconnected = refl
presence_is_word presences.Lost = refl

call_is_word : (it : CallKind) → IsTrue (list_all is_word_octet (call_word it))
call_is_word calls.Frame = refl
call_is_word calls.Take = refl
call_is_word calls.Tick = refl
call_is_word calls.View = refl
call_is_word calls.Digest = refl
call_is_word calls.Answer = refl
call_is_word calls.Compact = refl
call_is_word calls.Reopen = refl

answer_is_word : (it : CallAnswer) → IsTrue (list_all is_word_octet (answer_word it))
answer_is_word answers.Done = refl
answer_is_word answers.Frame = refl
answer_is_word answers.Halted = refl
answer_is_word answers.Disk = refl
answer_is_word answers.Conflict = refl
answer_is_word answers.Full = refl
answer_is_word answers.Exhausted = refl
answer_is_word answers.Memory = refl
answer_is_word answers.Journal = refl

fault_is_word : (it : DeltaFault) → IsTrue (list_all is_word_octet (fault_word it))
fault_is_word faults.Conflict = refl
fault_is_word faults.Full = refl
fault_is_word faults.Other = refl

place_is_word : (place : Place) → IsWord (place_text place)
place_is_word (places.Dialled place) = (codes "dialled-", refl, inr (place, refl))
place_is_word (places.Accepted place) = (codes "accepted-", refl, inr (place, refl))

-- each label is one
one : (key text : List ℕ) → IsMetricName key → IsWord text → IsLabel (pair_text key text)
one key text named worded = inr (inl (key, text, named, worded, refl))

two : (key text second other : List ℕ) → IsMetricName key → IsWord text → IsMetricName second → IsWord other
    → IsLabel (pairs_text key text second other)
two key text second other named worded also too =
    inr (inr (key, text, second, other, named, worded, also, too, refl))

is_label : (label : Label) → IsLabel (label_text label)
unfolding label_text
is_label labels.Bare = inl refl
is_label (labels.Frame frame) = one (codes "type") (frame_word frame) refl (word _ (frame_is_word frame))
is_label labels.OtherFrame = one (codes "type") (codes "other") refl (word _ refl)
is_label (labels.Call kind answer) =
    two (codes "kind") (call_word kind) (codes "answer") (answer_word answer) refl
    (word _ (call_is_word kind)) refl (word _ (answer_is_word answer))
is_label labels.Done = one (codes "result") (codes "done") refl (word _ refl)
is_label labels.Failed = one (codes "result") (codes "failed") refl (word _ refl)
is_label labels.InPlace = one (codes "where") (codes "in_place") refl (word _ refl)
is_label labels.BetweenShifts = one (codes "where") (codes "between_shifts") refl (word _ refl)
is_label (labels.Presence presence) = one (codes "presence") (presence_word presence) refl (word _ (presence_is_word presence))
is_label labels.NoSession = one (codes "presence") (codes "none") refl (word _ refl)
is_label labels.FirstSlot = one (codes "slot") (codes "first") refl (word _ refl)
is_label labels.SecondSlot = one (codes "slot") (codes "second") refl (word _ refl)
is_label (labels.Place place) = one (codes "place") (place_text place) refl (place_is_word place)
is_label (labels.Fault place fault) =
    two (codes "place") (place_text place) (codes "fault") (fault_word fault) refl
    (place_is_word place) refl (word _ (fault_is_word fault))
is_label (labels.Origin number) = one (codes "origin") (decimal number) refl ([], refl, inr (number, refl))

-- texts of lines, one after the other
nothing : IsExposition []
nothing = ([], All-nil (λ line. IsHelp line ⊎ (IsTypeLine line ⊎ IsSample line)), refl)

single : (line : List ℕ) → IsHelp line ⊎ (IsTypeLine line ⊎ IsSample line) → IsExposition line
single line known = (
  line ∷ [],
  All-cons (λ it. IsHelp it ⊎ (IsTypeLine it ⊎ IsSample it)) line [] known
      (All-nil (λ it. IsHelp it ⊎ (IsTypeLine it ⊎ IsSample it))),
  sym (append-nil line),
)

both : (a b : List ℕ) → IsExposition a → IsExposition b → IsExposition (a ++ b)
both a b (xs, every, made) (ys, too, also) = (
  xs ++ ys,
  All-append (λ it. IsHelp it ⊎ (IsTypeLine it ⊎ IsSample it)) xs ys every too,
  ap₂ (λ (u v : List ℕ). u ++ v) made also ∙ sym (flat_map-append (λ (line : List ℕ). line) xs ys),
)

each : {X : Type 0} (f : X → List ℕ) → ((x : X) → IsExposition (f x)) → (xs : List X)
    → IsExposition (flat_map f xs)
each f every [] = nothing
each f every (x ∷ xs) = both (f x) (flat_map f xs) (every x) (each f every xs)

-- the lines of a name, and of a number
help_is_line : (name help : List ℕ) → IsMetricName name → IsTrue (list_all is_help_octet help)
    → IsExposition (help_line name help)
unfolding help_line
help_is_line name help named plain = single _ (inl (name, help, named, plain, refl))

type_is_line : (name kind : List ℕ) → IsMetricName name → IsMetricName kind → IsExposition (type_line name kind)
unfolding type_line
type_is_line name kind named plain = single _ (inr (inl (name, kind, named, plain, refl)))

head_is_lines : (name help : List ℕ) (kind : Kind) → IsMetricName name → IsTrue (list_all is_help_octet help)
    → IsExposition (head_text name help kind)
head_is_lines name help kind named plain =
    both (help_line name help) (type_line name (kind_word kind)) (help_is_line name help named plain) (type_is_line name (kind_word kind) named (is_kind kind))

number_is_line : (name : List ℕ) (label : Label) (in_thousandths : Bool) (value : ℕ) → IsMetricName name
    → IsExposition (number_line name label in_thousandths value)
unfolding number_line
number_is_line name label in_thousandths value named =
    single _ (inr (inr (name, label_text label, in_thousandths, value, named, is_label label, refl)))

single_is_lines : (all : Singles) (it : Single) → IsExposition (single_text all it)
unfolding single_text
single_is_lines all it =
    both _ _ (head_is_lines (single_name it) (single_help it) (single_kind it) (single_is_name it) (single_is_help it))
    (number_is_line (single_name it) labels.Bare (is_in_thousandths it) (single_value all it) (single_is_name it))

link_is_line : (column : Column) (link : Link) → IsExposition (link_text column link)
link_is_line column link =
    number_is_line (column_name column) (labels.Place link.place) false (link_value link column) (column_is_name column)

column_is_lines : (links : List Link) (column : Column) → IsExposition (column_text links column)
unfolding column_text
column_is_lines links column =
    both _ _ (head_is_lines (column_name column) (column_help column) (column_kind column) (column_is_name column) (column_is_help column))
    (each (link_text column) (link_is_line column) links)

sample_is_line : (count : Count) (sample : Sample) → IsExposition (sample_text count sample)
sample_is_line count sample =
    number_is_line (count_name count) sample.label false sample.value (count_is_name count)

count_is_lines : (count : Count) (samples : List Sample) → IsExposition (count_text count samples)
unfolding count_text
count_is_lines count samples =
    both _ _ (head_is_lines (count_name count) (count_help count) (count_kind count) (count_is_name count) (count_is_help count))
    (each (sample_text count) (sample_is_line count) samples)

traffic_is_lines : (n : Numbers) → IsExposition (traffic_text n)
unfolding traffic_text
traffic_is_lines n =
    both _ _ (count_is_lines counts.FramesReceived n.frames_received)
    (both _ _ (count_is_lines counts.DatagramsSent n.datagrams_sent)
    (count_is_lines counts.Calls n.calls))

state_is_lines : (n : Numbers) → IsExposition (state_text n)
unfolding state_text
state_is_lines n =
    both _ _ (count_is_lines counts.Compactions n.compactions)
    (both _ _ (count_is_lines counts.Reopenings n.reopenings)
    (both _ _ (count_is_lines counts.Clients n.clients)
    (both _ _ (count_is_lines counts.JournalOctets n.journal_octets)
    (count_is_lines counts.MessagesKnown n.messages_known))))

-- whatever a report has in it
pub numbers_are_lines : (numbers : Numbers) → IsExposition (exposition_of numbers)
numbers_are_lines n =
    both _ _ (each (single_text n.singles) (single_is_lines n.singles) all_singles)
    (both _ _ (traffic_is_lines n)
    (both _ _ (state_is_lines n)
    (both _ _ (each (column_text n.links) (column_is_lines n.links) all_columns)
    (count_is_lines counts.LinkRefused n.link_refused))))
