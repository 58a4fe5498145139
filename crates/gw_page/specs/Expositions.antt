-- The text of a gateway's numbers, as Prometheus reads it (text exposition format 0.0.4).
use Rattle.std.specs.Prelude.{ℕ, List, [], Bool, true, false, codes, flat_map}
use Rattle.std.specs.Fmt.{decimal}
use Rattle.gw_report.specs.declared.count.Kind.{Kind}
use Rattle.gw_report.specs.declared.count.Single.{Single}
use Rattle.gw_report.specs.declared.count.Column.{Column}
use Rattle.gw_report.specs.declared.count.Count.{Count}
use Rattle.gw_report.specs.declared.count.Count.TheVariants as counts
use Rattle.gw_report.specs.declared.label.CallKind.{CallKind}
use Rattle.gw_report.specs.declared.label.CallAnswer.{CallAnswer}
use Rattle.gw_report.specs.declared.label.DeltaFault.{DeltaFault}
use Rattle.gw_report.specs.declared.label.Label.{Label}
use Rattle.gw_report.specs.declared.label.Label.TheVariants as labels
use Rattle.gw_report.specs.declared.label.Place.{Place}
use Rattle.gw_report.specs.declared.label.Place.TheVariants as places
use Rattle.gw_report.specs.declared.numbers.Sample.{Sample}
use Rattle.gw_report.specs.declared.numbers.Link.{Link}
use Rattle.gw_report.specs.declared.numbers.Singles.{Singles}
use Rattle.gw_report.specs.declared.numbers.Numbers.{Numbers}
use Rattle.gw_report.specs.declared.numbers.TheConstants.{SINGLES as all_singles, COLUMNS as all_columns}
use Rattle.gw_report.specs.Words.{kind_word, single_name, single_help, single_kind, is_in_thousandths, column_name, column_help, column_kind, count_name, count_help, count_kind}
use Rattle.gw_report.specs.Labels.{frame_word, call_word, answer_word, fault_word, presence_word}
use Rattle.gw_report.specs.Numbers.{single_value, link_value}
use Rattle.gw_page.specs.Texts.{◌▹◌, line_end}

-- a label of one word
abbrev pub pair_text : List ℕ → List ℕ → List ℕ
pair_text key word = codes "{" ▹ key ▹ codes "=\"" ▹ word ▹ codes "\"}"

-- a label of two words
abbrev pub pairs_text : List ℕ → List ℕ → List ℕ → List ℕ → List ℕ
pairs_text key word other text =
    codes "{" ▹ key ▹ codes "=\"" ▹ word ▹ codes "\"," ▹ other ▹ codes "=\"" ▹ text ▹ codes "\"}"

-- the place of a link
abbrev pub place_text : Place → List ℕ
place_text (places.Dialled place) = codes "dialled-" ▹ decimal place
place_text (places.Accepted place) = codes "accepted-" ▹ decimal place

-- the label of a call
abbrev pub call_text : CallKind → CallAnswer → List ℕ
call_text kind answer =
    pairs_text (codes "kind") (call_word kind) (codes "answer") (answer_word answer)

-- the label of a place of a link
abbrev pub place_label : Place → List ℕ
place_label place = pair_text (codes "place") (place_text place)

-- the label of a place of a link, and of a fault
abbrev pub fault_label : Place → DeltaFault → List ℕ
fault_label place fault =
    pairs_text (codes "place") (place_text place) (codes "fault") (fault_word fault)

-- the label of a gateway that puts messages
abbrev pub origin_label : ℕ → List ℕ
origin_label number = pair_text (codes "origin") (decimal number)

-- a label
unfoldable pub label_text : Label → List ℕ
label_text labels.Bare = []
label_text (labels.Frame frame) = pair_text (codes "type") (frame_word frame)
label_text labels.OtherFrame = pair_text (codes "type") (codes "other")
label_text (labels.Call kind answer) = call_text kind answer
label_text labels.Done = pair_text (codes "result") (codes "done")
label_text labels.Failed = pair_text (codes "result") (codes "failed")
label_text labels.InPlace = pair_text (codes "where") (codes "in_place")
label_text labels.BetweenShifts = pair_text (codes "where") (codes "between_shifts")
label_text (labels.Presence presence) = pair_text (codes "presence") (presence_word presence)
label_text labels.NoSession = pair_text (codes "presence") (codes "none")
label_text labels.FirstSlot = pair_text (codes "slot") (codes "first")
label_text labels.SecondSlot = pair_text (codes "slot") (codes "second")
label_text (labels.Place place) = place_label place
label_text (labels.Fault place fault) = fault_label place fault
label_text (labels.Origin number) = origin_label number

-- what a name is
unfoldable pub help_line : List ℕ → List ℕ → List ℕ
help_line name help = codes "# HELP nimhazel_" ▹ name ▹ codes " " ▹ help ▹ line_end

-- whether the numbers of a name only grow
unfoldable pub type_line : List ℕ → List ℕ → List ℕ
type_line name kind =
    codes "# TYPE nimhazel_" ▹ name ▹ codes " " ▹ kind ▹ line_end

-- both
abbrev pub head_text : List ℕ → List ℕ → Kind → List ℕ
head_text name help kind = help_line name help ▹ type_line name (kind_word kind)

-- a number, or so many thousandths
abbrev pub value_text : Bool → ℕ → List ℕ
value_text false value = codes " " ▹ decimal value ▹ line_end
value_text true value = codes " " ▹ decimal value ▹ codes "e-3" ▹ line_end

-- a number: its name, its label, its value
unfoldable pub number_line : List ℕ → Label → Bool → ℕ → List ℕ
number_line name label in_thousandths value =
    codes "nimhazel_" ▹ name ▹ label_text label ▹ value_text in_thousandths value

-- a number without a label
unfoldable pub single_text : Singles → Single → List ℕ
single_text all single =
    head_text (single_name single) (single_help single) (single_kind single)
    ▹ number_line (single_name single) labels.Bare (is_in_thousandths single)
    (single_value all single)

-- a number of a place of a link
abbrev pub link_text : Column → Link → List ℕ
link_text column link =
    number_line (column_name column) (labels.Place link.place) false (link_value link column)

-- this number of all places
unfoldable pub column_text : List Link → Column → List ℕ
column_text links column =
    head_text (column_name column) (column_help column) (column_kind column)
    ▹ flat_map (link_text column) links

-- a number with its label
abbrev pub sample_text : Count → Sample → List ℕ
sample_text count sample = number_line (count_name count) sample.label false sample.value

-- all numbers of a name
unfoldable pub count_text : Count → List Sample → List ℕ
count_text count samples =
    head_text (count_name count) (count_help count) (count_kind count)
    ▹ flat_map (sample_text count) samples

-- the numbers with labels that are of calls and datagrams
unfoldable pub traffic_text : Numbers → List ℕ
traffic_text n =
    count_text counts.FramesReceived n.frames_received
    ▹ count_text counts.DatagramsSent n.datagrams_sent
    ▹ count_text counts.Calls n.calls

-- the numbers with labels that are of the gateway
unfoldable pub state_text : Numbers → List ℕ
state_text n =
    count_text counts.Compactions n.compactions
    ▹ count_text counts.Reopenings n.reopenings
    ▹ count_text counts.Clients n.clients
    ▹ count_text counts.JournalOctets n.journal_octets
    ▹ count_text counts.MessagesKnown n.messages_known

-- all numbers of a report, each once
abbrev pub exposition_of : Numbers → List ℕ
exposition_of n =
    flat_map (single_text n.singles) all_singles
    ▹ traffic_text n ▹ state_text n
    ▹ flat_map (column_text n.links) all_columns
    ▹ count_text counts.LinkRefused n.link_refused
