-- The rows of CONNECT and DISCONNECT (MQTT-SN 1.2 sections 6.2, 6.12 and 6.14).
use Rattle.std.specs.Prelude.{ℕ, ◌==◌, ◌^◌, Bool, ◌&&◌, not, if◌then◌else◌, List, Option, Some, None, bit_and}
use Rattle.sn_session.specs.declared.presence.Presence.TheVariants.{Asleep, Disconnected}
use Rattle.sn_session.specs.declared.session.Session.{Session}
use Rattle.sn_session.specs.declared.change.SessionOp.TheVariants.{Presence}
use Rattle.rep_model.specs.declared.view.ClientView.{ClientView}
use Rattle.sn_frame.specs.declared.frame.Frame.TheVariants as frames
use Rattle.sn_local.specs.declared.config.Addr.{Addr}
use Rattle.sn_flow.specs.declared.accept.GivenWill.TheVariants.{AsItIs}
use Rattle.sn_local.specs.declared.local.Awaited.TheVariants.{Topic}
use Rattle.sn_local.specs.declared.local.Request.{Request}
use Rattle.sn_local.specs.declared.local.WillDialog.{WillDialog}
use Rattle.sn_local.specs.declared.local.LocalChange.TheVariants.{Unbind, Ask}
use Rattle.sn_plan.specs.declared.row.Row.{Row}
use Rattle.sn_plan.specs.declared.row.Follow.TheVariants.{Nothing, Resend}
use Rattle.sn_plan.specs.Drafts.{Drafted, nothing, changed, sent, moved}
use Rattle.sn_local.specs.Seen.{Seen}
use Rattle.sn_local.specs.Bindings.{client_at}
use Rattle.sn_local.specs.WillDialogs.{is_crowded}
use Rattle.sn_local.specs.Locals.{Local}
use Rattle.sn_plan.specs.Bound.{session_of}
use Rattle.sn_plan.specs.Rows.{row_of, row_with_timer, turned_away}
use Rattle.sn_flow.specs.Accept.{accept, has_no_room}

-- whether bit k of the flags is set
abbrev pub has_bit : ℕ → ℕ → Bool
has_bit bits k = not (bit_and bits (2 ^ k) == 0)

-- what a CONNECT asks for
abbrev pub request_of : Addr → ℕ → ℕ → List ℕ → Request
request_of a flags duration c =
    record { address = a; client = c; clean = has_bit flags 2; duration = duration }

-- Why a CONNECT is refused, if it is. Protocol 1 is the only one. A client that would be the
-- 1,025th gets congestion, and so does a will if 1,024 other addresses have a dialog.
abbrev pub refusal_of : Seen → List WillDialog → Addr → List ℕ → ℕ → ℕ → Option ℕ
refusal_of seen dialogs a c flags protocol =
    if not (protocol == 1) then Some 3
    else (if has_no_room seen c then Some 1
    else (if has_bit flags 3 && is_crowded a dialogs then Some 1 else None))

-- the client is asked for the topic of its will
abbrev pub ask_topic : Request → ℕ → Drafted
ask_topic request now =
    sent request.address frames.WillTopicReq
    (moved (Ask (record { request = request; begun = now; awaited = Topic })) nothing)

-- a CONNECT that is not refused: without a will it is accepted, and the session keeps the will that
-- it has
abbrev pub accepted_connect : Request → Bool → ClientView → ℕ → Row
accepted_connect request will v now =
    if will then row_of Nothing request.client (ask_topic request now)
    else row_of Resend request.client (accept request AsItIs v now)

-- CONNECT: refused by CONNACK with the code, if there is one, else welcomed
abbrev pub connect_row : Request → Bool → ClientView → ℕ → Option ℕ → Row
connect_row request will v now (Some code) =
    row_of Nothing request.client (sent request.address (frames.ConnAck code) nothing)
connect_row request will v now None = accepted_connect request will v now

-- the row of CONNECT (6.2)
abbrev pub connect : Seen → Local → Addr → ℕ → ℕ → ℕ → List ℕ → ℕ → Row
connect seen local a flags protocol duration c now =
    row_with_timer (client_at a local.bindings) now
    (connect_row (request_of a flags duration c) (has_bit flags 3) (seen.of c) now
    (refusal_of seen local.dialogs a c flags protocol))

-- the client says good-bye: its session stays as it is
abbrev pub leave : Addr → List ℕ → Session → Drafted
leave a c s =
    sent a (frames.Disconnect None)
    (moved (Unbind c) (changed (Presence Disconnected s.duration) nothing))

-- the client falls asleep for a duration, and keeps its address
abbrev pub fall_asleep : Addr → ℕ → Drafted
fall_asleep a duration =
    sent a (frames.Disconnect None) (changed (Presence Asleep duration) nothing)

-- DISCONNECT of a bound client: with a duration above 0 it falls asleep, else it leaves
abbrev pub disconnect_draft : Addr → List ℕ → Session → Option ℕ → Drafted
disconnect_draft a c s None = leave a c s
disconnect_draft a c s (Some duration) =
    if duration == 0 then leave a c s else fall_asleep a duration

-- the row of DISCONNECT of the client c with this session; nothing follows
abbrev pub left : Addr → List ℕ → Session → Option ℕ → ℕ → Row
left a c s duration now =
    row_with_timer (Some c) now (row_of Nothing c (disconnect_draft a c s duration))

-- DISCONNECT from an address; without a bound client there it is turned away
abbrev pub disconnect_of : Seen → Addr → Option (List ℕ) → Option ℕ → ℕ → Row
disconnect_of seen a None duration now = turned_away a
disconnect_of seen a (Some c) duration now = left a c (session_of seen c) duration now

-- the row of DISCONNECT (6.12 and 6.14)
abbrev pub disconnect : Seen → Local → Addr → Option ℕ → ℕ → Row
disconnect seen local a duration now =
    disconnect_of seen a (client_at a local.bindings) duration now
