-- Why a gateway may acknowledge a message that waits for a client.
use Rattle.std.specs.Prelude.{◌≡◌, ℕ, ◌≤◌, ◌==◌, true, false, ◌⊎◌, if◌then◌else◌, List, [], length, Option, Some, None, Contains}
use Rattle.sn_topic.specs.Table.{Entries}
use Rattle.sn_session.specs.declared.outbound.Outbound.{Outbound}
use Rattle.sn_session.specs.declared.outbound.Phase.{Phase}
use Rattle.sn_session.specs.declared.outbound.Phase.TheVariants.{Registering, Published}
use Rattle.sn_session.specs.declared.session.Session.{Session}
use Rattle.sn_frame.specs.declared.frame.Frame.{Frame}
use Rattle.sn_frame.specs.declared.frame.Frame.TheVariants as frames
use Rattle.sn_frame.specs.Grammar.{spelling}
use Rattle.rep_op.specs.declared.op.Put.{Put}
use Rattle.rep_op.specs.Orders.{name_of}
use Rattle.rep_model.specs.Moments.{is_past}
use Rattle.sn_local.specs.declared.config.Addr.{Addr}
use Rattle.sn_local.specs.declared.config.Send.{Send}
use Rattle.sn_local.specs.declared.local.Awaited.{Awaited}
use Rattle.sn_local.specs.declared.local.Awaited.TheVariants.{Topic, Message}
use Rattle.sn_local.specs.declared.local.WillDialog.{WillDialog}
use Rattle.sn_local.specs.Bindings.{address_of, client_at, is_owned}
use Rattle.sn_local.specs.Locals.{Local}
use Rattle.sn_local.specs.Seen.{Seen}
use Rattle.sn_local.specs.WillDialogs.{dialog_at}
use Rattle.sn_plan.specs.Bound.{session_of}
use Rattle.sn_plan.specs.Drafts.{session_after}
use Rattle.sn_flow.specs.Connection.{has_bit}
use Rattle.sn_exchange.specs.Exchanges.{is_served, message_of, open_exchange}
use Rattle.sn_exchange.specs.Following.{peer_at}
use Rattle.sn_deliver.specs.Steps.{row_for}
use Rattle.sn_tick.specs.Expiry.{under_way, is_under_way}
use Rattle.step_laws.specs.Laws.{IsDoneWith}

-- ---- whom a frame is from

-- the client that began the dialog, if that waits for the topic of a will; else the bound one
abbrev pub client_by_topic : Option (List ℕ) → WillDialog → Awaited → Option (List ℕ)
client_by_topic bound dialog Topic = Some dialog.request.client
client_by_topic bound dialog (Message topic) = bound

-- the client that a WILLTOPIC speaks for: that of its address's dialog, if that waits for the
-- topic, else the bound one
abbrev pub gives_topic : Option (List ℕ) → Option WillDialog → Option (List ℕ)
gives_topic bound None = bound
gives_topic bound (Some dialog) = client_by_topic bound dialog dialog.awaited

-- the client that began the dialog, if that waits for the message of a will; else the bound one
abbrev pub by_message : Option (List ℕ) → WillDialog → Awaited → Option (List ℕ)
by_message bound dialog Topic = bound
by_message bound dialog (Message topic) = Some dialog.request.client

-- the client that a WILLMSG speaks for: that of its address's dialog, if that waits for the
-- message, else the bound one
abbrev pub gives_message : Option (List ℕ) → Option WillDialog → Option (List ℕ)
gives_message bound None = bound
gives_message bound (Some dialog) = by_message bound dialog dialog.awaited

-- The client that a frame is from. CONNECT, and PINGREQ if it is not empty, name it. A will that a
-- dialog of the address waits for is from the client that began the dialog. Every other frame is
-- from the client that is bound to the address.
abbrev pub sender_of : Local → Addr → Frame → Option (List ℕ)
sender_of local a (frames.Connect flags protocol duration client) = Some client
sender_of local a (frames.PingReq client) =
    if length client == 0 then client_at a local.bindings else Some client
sender_of local a (frames.WillTopic will) =
    gives_topic (client_at a local.bindings) (dialog_at a local.dialogs)
sender_of local a (frames.WillMsg message) =
    gives_message (client_at a local.bindings) (dialog_at a local.dialogs)
sender_of local a frame = client_at a local.bindings

-- ---- causes

-- the client is accepted: CONNACK 0 to the address is among the frames
abbrev pub IsWelcome : Addr → List Send → Type 0
IsWelcome a sends = Contains sends (record { to = a; bytes = spelling (frames.ConnAck 0) })

-- the client began a will dialog at the address, for a clean session
abbrev pub BeganClean : Local → Addr → List ℕ → Type 0
BeganClean local a c =
    (dialog : WillDialog) × (dialog_at a local.dialogs ≡ Some dialog)
    × (dialog.request.client ≡ c) × (dialog.request.clean ≡ true)

-- the message is that of the client's open exchange, which is in this phase and has this message id
abbrev pub AnswersFor : Seen → List ℕ → Phase → ℕ → Put → Type 0
AnswersFor seen c phase msg_id put =
    (x : Outbound) × (open_exchange (session_of seen c) [] (seen.of c).pending ≡ Some x)
    × (x.phase ≡ phase) × (x.msg_id ≡ msg_id) × (message_of x ≡ name_of put)

-- the return codes from 2 on refuse what was sent: 0 accepts it, and with 1, congestion, it is sent
-- again later. That is wider than the step table: with 2 a message that went out by the id of its
-- entry goes on waiting.
abbrev pub IsRefusalCode : ℕ → Type 0
IsRefusalCode code = 2 ≤ code

-- The frame is a cause to acknowledge this message of the client c. A CONNECT, or the end of a will
-- dialog, begins a clean session, and is accepted. A PUBACK accepts the message at quality of
-- service 1, or refuses it. A PUBREC answers the message at 2. A REGACK refuses its topic.
abbrev pub IsCause : Seen → Local → Addr → Frame → List Send → List ℕ → Put → Type 0
IsCause seen local a (frames.Connect flags protocol duration client) sends c put =
    (client ≡ c) × (has_bit flags.bits 2 ≡ true) × IsWelcome a sends
IsCause seen local a (frames.WillTopic will) sends c put =
    BeganClean local a c × IsWelcome a sends
IsCause seen local a (frames.WillMsg message) sends c put =
    BeganClean local a c × IsWelcome a sends
IsCause seen local a (frames.PubAck topic_id msg_id code) sends c put =
    AnswersFor seen c Published msg_id put × (((code ≡ 0) × (put.qos ≡ 1)) ⊎ IsRefusalCode code)
IsCause seen local a (frames.PubRec msg_id) sends c put =
    AnswersFor seen c Published msg_id put × (put.qos ≡ 2)
IsCause seen local a (frames.RegAck topic_id msg_id code) sends c put =
    AnswersFor seen c Registering msg_id put × IsRefusalCode code
IsCause seen local a frame sends c put = ⊥

-- ---- what the law says

-- the session of the client once the row of the frame has changed it
abbrev pub session_behind : ℕ → Entries → Seen → Local → Addr → Frame → ℕ → List ℕ → Session
session_behind g predefined seen local a frame now c =
    session_after (session_of seen c) (row_for g predefined seen local a frame now).draft

-- Delivery at the address is done with the message of the client, which is Active or Awake. Either
-- the message is sent at quality of service 0, or no topic id is left for it. That too is wider
-- than the table. One PUBLISH may stand for several equal messages. If no id is left, nothing says
-- that Delivery came as far as this message.
abbrev pub IsSpent : Entries → Addr → List ℕ → ℕ → Session → Put → List Send → Type 0
IsSpent predefined a c now s put sends =
    (is_served s.presence ≡ true) × IsDoneWith predefined (peer_at a c now) s put sends

-- The name is that of a message that waits for the client c, and the frame is from c. The frame is
-- the cause, or Delivery is done with the message.
abbrev pub IsForCause : ℕ → Entries → Seen → Local → Addr → Frame → ℕ → List Send → List ℕ → ℕ × ℕ
    → Type 0
IsForCause g predefined seen local a frame now sends c name =
    (sender_of local a frame ≡ Some c) × ((put : Put) × Contains (seen.of c).pending put
    × (name ≡ name_of put)
    × (IsCause seen local a frame sends c put
    ⊎ IsSpent predefined a c now (session_behind g predefined seen local a frame now c) put sends))

-- the client has an address, and Delivery at that address is done with the message
abbrev pub IsDelivered : Entries → Seen → Local → ℕ → List Send → List ℕ → Put → Type 0
IsDelivered predefined seen local now sends c put =
    (a : Addr) × (address_of c local.bindings ≡ Some a)
    × IsSpent predefined a c now (session_of seen c) put sends

-- the moment is there from which on the message need not wait, and the client is not in the middle
-- of it
abbrev pub HasExpired : Seen → Local → ℕ → List ℕ → Put → Type 0
HasExpired seen local now c put =
    (is_past now put ≡ true)
    × (is_under_way
    (under_way (seen.of c).pending (address_of c local.bindings) (seen.of c).session) put ≡ false)

-- The name is that of a message that waits for the client c, which is the gateway's. Delivery is
-- done with the message, or it has expired.
abbrev pub IsTimely : ℕ → Entries → Seen → Local → ℕ → List Send → List ℕ → ℕ × ℕ → Type 0
IsTimely g predefined seen local now sends c name =
    (is_owned g seen c ≡ true) × ((put : Put) × Contains (seen.of c).pending put
    × (name ≡ name_of put)
    × (IsDelivered predefined seen local now sends c put ⊎ HasExpired seen local now c put))
