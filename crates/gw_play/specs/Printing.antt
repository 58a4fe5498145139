-- What answers are printed as. Each line ends with a line feed.
use Rattle.std.specs.Prelude.{ℕ, ◌+◌, ◌==◌, ◌∷◌, ◌++◌, if◌then◌else◌, List, [], Option, Some, Result, Ok, Err, Bool, true, false, codes, map, flat_map, length}
use Rattle.std.specs.Option.{option_to_list}
use Rattle.std.specs.Fmt.{decimal}
use Rattle.sn_frame.specs.Faults.{frame_fault_number}
use Rattle.sn_session.specs.declared.presence.Presence.{Presence}
use Rattle.sn_session.specs.declared.presence.Presence.TheVariants as presences
use Rattle.sn_session.specs.declared.session.Session.{Session}
use Rattle.rep_op.specs.declared.op.Op.{Op}
use Rattle.rep_op.specs.declared.op.Put.{Put}
use Rattle.rep_op.specs.declared.op.Retained.{Retained}
use Rattle.rep_op.specs.declared.op.Stamp.{Stamp}
use Rattle.rep_model.specs.declared.view.ClientView.{ClientView}
use Rattle.sn_local.specs.declared.config.Send.{Send}
use Rattle.gw_world.specs.declared.event.Answer.{Answer}
use Rattle.gw_world.specs.declared.event.Answer.TheVariants as answers
use Rattle.gw_answer.specs.declared.out.Out.{Out}
use Rattle.gw_answer.specs.declared.refusal.Refusal.{Refusal}
use Rattle.gw_answer.specs.declared.refusal.Refusal.TheVariants as refusals
use Rattle.gw_answer.specs.Answers.{said}
use Rattle.gw_play.specs.Texts.{◌▹◌, hex_text, line_end}
use Rattle.gw_play.specs.Sessions.{tables_text}

-- a datagram: its port and its octets
abbrev pub send_line : Send → List ℕ
send_line send = codes "to " ▹ decimal send.to.port ▹ codes " " ▹ hex_text send.bytes ▹ line_end

-- a delta that joined the list, by its number
abbrev pub delta_line : ℕ → List ℕ
delta_line number = codes "delta " ▹ decimal number ▹ line_end

-- deltas that joined the list, after so many others
abbrev pub delta_lines : ℕ → List (List Op) → List ℕ
delta_lines before [] = []
delta_lines before (delta ∷ rest) = delta_line (before + 1) ▹ delta_lines (before + 1) rest

-- the deltas by which a step or an answer to a digest made the list longer
abbrev pub deltas_of_out : Out → List (List Op)
deltas_of_out out = option_to_list out.made ++ out.answer

-- the datagrams and the deltas; nothing of both is quiet
abbrev pub done_text : List Send → ℕ → List (List Op) → List ℕ
done_text [] before [] = codes "quiet" ▹ line_end
done_text sends before deltas = flat_map send_line sends ▹ delta_lines before deltas

-- what a gateway did
abbrev pub out_text : ℕ → Out → List ℕ
out_text before out = done_text out.sends before (deltas_of_out out)

-- a refusal, by its number; what is sent all the same comes before it
abbrev pub refusal_text : Refusal → List ℕ
refusal_text (refusals.Frame fault) = codes "refused N1 F" ▹ decimal (frame_fault_number fault) ▹ line_end
refusal_text refusals.Halted = codes "refused N2" ▹ line_end
refusal_text (refusals.Disk excuse) =
    flat_map send_line excuse.sends ▹ codes "refused N3" ▹ line_end
refusal_text (refusals.Conflict client) = codes "refused N4" ▹ line_end
refusal_text refusals.Full = codes "refused N5" ▹ line_end
refusal_text refusals.Exhausted = codes "refused N6" ▹ line_end
refusal_text refusals.Memory = codes "refused N7" ▹ line_end
refusal_text (refusals.Journal fault) = codes "refused N8" ▹ line_end

-- the word for what a client is
abbrev pub presence_text : Presence → List ℕ
presence_text presences.Active = codes "active"
presence_text presences.Asleep = codes "asleep"
presence_text presences.Awake = codes "awake"
presence_text presences.Disconnected = codes "disconnected"
presence_text presences.Lost = codes "lost"

-- whether the session began clean
abbrev pub session_word : Bool → List ℕ
session_word true = codes "clean"
session_word false = codes "kept"

-- a stamp: epoch and gateway
abbrev pub stamp_text : Stamp → List ℕ
stamp_text stamp = decimal stamp.epoch ▹ codes "." ▹ decimal stamp.gateway

-- what a session itself says: presence, clean or not, duration, next message id
abbrev pub session_text : Session → List ℕ
session_text session =
    presence_text session.presence ▹ codes " " ▹ session_word session.clean ▹ codes " "
    ▹ decimal session.duration ▹ codes " next "
    ▹ decimal session.next_id

-- what is known of a client
abbrev pub known_text : Option Stamp → ℕ → Option Session → List ℕ
known_text (Some stamp) prefix (Some session) =
    stamp_text stamp ▹ codes " prefix " ▹ decimal prefix ▹ codes " " ▹ session_text session
    ▹ line_end
known_text stamp prefix session = codes "none" ▹ line_end

-- a client, by its name
abbrev pub client_line : List ℕ → ClientView → List ℕ
client_line client view =
    codes "client " ▹ hex_text client ▹ codes " stamp "
    ▹ known_text view.stamp view.prefix view.session

-- the moment from which on a message need not wait, if it has one
abbrev pub moment_text : ℕ → List ℕ
moment_text expires = if expires == 0 then [] else codes " expires " ▹ decimal expires

-- a message that waits
abbrev pub put_line : Put → List ℕ
put_line put =
    codes "  put " ▹ decimal put.seq ▹ codes "." ▹ decimal put.origin ▹ codes " " ▹ decimal put.qos
    ▹ codes " " ▹ hex_text put.topic
    ▹ codes " " ▹ hex_text put.body ▹ moment_text put.expires ▹ line_end

-- the tables of the client's session, if it has one
abbrev pub session_lines : Option Stamp → Option Session → List ℕ
session_lines (Some stamp) (Some session) = tables_text session
session_lines stamp session = []

-- a client with its session and its messages
abbrev pub client_text : List ℕ × ClientView → List ℕ
client_text (client, view) =
    client_line client view ▹ session_lines view.stamp view.session ▹ flat_map put_line view.pending

-- what is retained of a topic
abbrev pub retained_line : List ℕ × Retained → List ℕ
retained_line (topic, kept) =
    codes "retain " ▹ decimal kept.clock ▹ codes "." ▹ decimal kept.gateway ▹ codes " "
    ▹ decimal kept.qos ▹ codes " " ▹ hex_text topic ▹ codes " " ▹ hex_text kept.body ▹ line_end

-- the clients that a gateway knows, and what it retains of topics; nothing of both is empty
abbrev pub views_text : List (List ℕ × ClientView) → List (List ℕ × Retained) → List ℕ
views_text [] [] = codes "empty" ▹ line_end
views_text views topics = flat_map client_text views ▹ flat_map retained_line topics

-- how many records a gateway has read that was opened again
abbrev pub records_line : ℕ → List ℕ
records_line count = codes "records " ▹ decimal count ▹ line_end

-- what a gateway answered, if so many deltas were made before it
abbrev pub said_text : ℕ → Result Out Refusal → List ℕ
said_text before (Ok out) = out_text before out
said_text before (Err refusal) = refusal_text refusal

-- how many deltas there are after it
abbrev pub deltas_behind : ℕ → Result Out Refusal → ℕ
deltas_behind before (Ok out) = before + length (deltas_of_out out)
deltas_behind before (Err refusal) = before

-- what a gateway answered to calls that came together: each as if it had come alone
abbrev pub row_text : ℕ → List (Result Out Refusal) → List ℕ
row_text before [] = []
row_text before (answer ∷ rest) =
    said_text before answer ▹ row_text (deltas_behind before answer) rest

-- how many deltas there are after them
abbrev pub row_behind : ℕ → List (Result Out Refusal) → ℕ
row_behind before [] = before
row_behind before (answer ∷ rest) = row_behind (deltas_behind before answer) rest

-- what an answer is printed as, if so many deltas were made before it
abbrev pub answer_text : ℕ → Answer → List ℕ
answer_text before (answers.Node answer) = said_text before (said answer)
answer_text before (answers.Row all) = row_text before (map said all)
answer_text before (answers.Views views topics) = views_text views topics
answer_text before (answers.Records count) = records_line count
answer_text before answers.Nothing = codes "quiet" ▹ line_end

-- how many deltas there are after an answer, if there were so many before it
abbrev pub deltas_after : ℕ → Answer → ℕ
deltas_after before (answers.Node answer) = deltas_behind before (said answer)
deltas_after before (answers.Row all) = row_behind before (map said all)
deltas_after before answer = before

-- answers in their order
abbrev pub answers_text : ℕ → List Answer → List ℕ
answers_text before [] = []
answers_text before (answer ∷ rest) =
    answer_text before answer ▹ answers_text (deltas_after before answer) rest
