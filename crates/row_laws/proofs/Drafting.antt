-- The plan of a row is the plan of a draft; the rows of connections and topics make no message.
use Rattle.std.proofs.Common.{◌≡◌, ℕ, ◌==◌, Bool, true, false, if◌then◌else◌, nat_lt, List, [], length, Option, Some, None, refl, inl}
use Rattle.sn_topic.specs.Table.{Entries}
use Rattle.sn_session.specs.declared.session.Session.{Session}
use Rattle.sn_session.specs.declared.will.WillTopic.{WillTopic}
use Rattle.sn_frame.specs.declared.frame.Frame.{Frame}
use Rattle.sn_frame.specs.declared.frame.Frame.TheVariants as frames
use Rattle.sn_frame.specs.declared.frame.Will.{Will}
use Rattle.rep_model.specs.declared.view.ClientView.{ClientView}
use Rattle.sn_local.specs.declared.config.Addr.{Addr}
use Rattle.sn_flow.specs.declared.accept.GivenWill.{GivenWill}
use Rattle.sn_flow.specs.declared.accept.GivenWill.TheVariants.{AsItIs, Deleted, Replaced}
use Rattle.sn_local.specs.declared.local.Awaited.{Awaited}
use Rattle.sn_local.specs.declared.local.Awaited.TheVariants.{Topic, Message}
use Rattle.sn_local.specs.declared.local.Request.{Request}
use Rattle.sn_local.specs.declared.local.WillDialog.{WillDialog}
use Rattle.sn_plan.specs.declared.plan.Plan.{Plan}
use Rattle.sn_plan.specs.declared.row.Row.{Row}
use Rattle.sn_plan.specs.declared.row.Follow.TheVariants.{Nothing, Resend}
use Rattle.sn_plan.specs.Drafts.{Drafted, nothing}
use Rattle.sn_plan.specs.Numbering.{planned}
use Rattle.sn_local.specs.Seen.{Seen}
use Rattle.sn_plan.specs.Plans.{plan_of_puts}
use Rattle.sn_local.specs.Bindings.{client_at}
use Rattle.sn_local.specs.WillDialogs.{dialog_at}
use Rattle.sn_local.specs.Locals.{Local}
use Rattle.sn_plan.specs.Bound.{session_of}
use Rattle.sn_plan.specs.Rows.{row_of, row_with_timer, plan_for, plan_of_row, unexpected_row}
use Rattle.sn_flow.specs.Accept.{accept, has_no_room}
use Rattle.sn_flow.specs.Connection.{has_bit, request_of, refusal_of, ask_topic, connect_row, connect, leave, fall_asleep, disconnect_draft, disconnect_of, disconnect}
use Rattle.sn_flow.specs.Wills.{congestion, not_supported, will_of, dismissed, concluded, topic_given, topic_row, message_row, will_topic_in, will_topic_from, will_topic, message_in, will_message_from, will_msg, topic_update_of, will_topic_update as update_topic, message_update_of, will_msg_update as update_message}
use Rattle.sn_flow.specs.WillUpdate.{topic_asked}
use Rattle.sn_subscribe.specs.Handing.{waiting_for}
use Rattle.sn_subscribe.specs.TopicRows.{register_of, register as register_topic, subscribe_of, subscribe as subscribe_topics, unsubscribe_of, unsubscribe as unsubscribe_topics}
use Rattle.sn_plan.specs.Others.{other}
use Rattle.sn_plan.specs.Own.{PutsApart, IsOfDraft, MakesNoMessage}
use Rattle.sn_plan.proofs.Made.{SameMade, for_nobody, no_puts, no_handed, no_retain}
use Rattle.row_laws.specs.RequestLaws.{HandsNothing}
use Rattle.row_laws.proofs.Keeping.{of_register, of_subscribe, of_unsubscribe, of_will_topic_update, of_will_msg_update}

module _ (g : ℕ) (seen : Seen) (plan : Plan) where
  -- what is retained, messages, frames and local changes are the plan of a draft for any client
  puts-drafted : (d : Drafted) → PutsApart d → plan_of_puts g seen d ≡ Some plan → IsOfDraft g seen plan
  unfolding planned
  puts-drafted d apart e = record {
    client = [];
    draft = for_nobody d;
    apart = record { one_each = apart.one_each; alone = inl refl };
    is = e;
  }

  for-drafted : (d : Drafted) (client : Option (List ℕ)) → PutsApart d → plan_for g seen d client ≡ Some plan → IsOfDraft g seen plan
  for-drafted d None apart e = puts-drafted d apart e
  for-drafted d (Some c) apart e = record { client = c; draft = d; apart = apart; is = e }

-- the plan of a row is the plan of a draft
pub row-drafted : (g : ℕ) (seen : Seen) (row : Row) (plan : Plan) → PutsApart row.draft → plan_of_row g seen row ≡ Some plan → IsOfDraft g seen plan
row-drafted g seen row plan apart e = for-drafted g seen plan row.draft row.client apart e

-- the row makes no message, hands nothing and retains nothing
abbrev pub MakesNothing : Row → Type 0
MakesNothing row = SameMade row.draft nothing

pub no-message : (row : Row) → MakesNothing row → MakesNoMessage row
no-message row h = (no_puts row.draft h, no_handed row.draft h, no_retain row.draft h)

hands-nothing : (d : Drafted) → HandsNothing d → SameMade d nothing
hands-nothing d h = λ i. (h.leaves.puts i, h.handed i, h.leaves.retain i)

heard-made : (bound : Option (List ℕ)) (now : ℕ) (row : Row) → MakesNothing row → MakesNothing (row_with_timer bound now row)
heard-made None now row h = h
heard-made (Some c) now row h = h

pub stray-made : (a : Addr) (bound : Option (List ℕ)) (now : ℕ) → MakesNothing (unexpected_row a bound now)
stray-made a None now = refl
stray-made a (Some c) now = refl

either : (test : Bool) (d e : Row) → MakesNothing d → MakesNothing e → MakesNothing (if test then d else e)
either true d e h k = h
either false d e h k = k

either-draft : (test : Bool) (d e : Drafted) → SameMade d nothing → SameMade e nothing → SameMade (if test then d else e) nothing
either-draft true d e h k = h
either-draft false d e h k = k

pub other-made : (g : ℕ) (local : Local) (a : Addr) (frame : Frame) (now : ℕ) → MakesNothing (other g local a frame now)
other-made g local a (frames.SearchGw radius) now = refl
other-made g local a (frames.Advertise gateway duration) now = refl
other-made g local a (frames.GwInfo gateway address) now = refl
other-made g local a (frames.ConnAck code) now = refl
other-made g local a frames.WillTopicReq now = refl
other-made g local a frames.WillMsgReq now = refl
other-made g local a (frames.SubAck flags topic_id msg_id code) now = refl
other-made g local a (frames.UnsubAck msg_id) now = refl
other-made g local a (frames.WillTopicResp code) now = refl
other-made g local a (frames.WillMsgResp code) now = refl
other-made g local a frame now = stray-made a (client_at a local.bindings) now

connect_row-made : (request : Request) (will : Bool) (v : ClientView) (now : ℕ) (code : Option ℕ) → MakesNothing (connect_row request will v now code)
connect_row-made request will v now (Some code) = refl
connect_row-made request will v now None = either will (row_of Nothing request.client (ask_topic request now)) (row_of Resend request.client (accept request AsItIs v now)) refl refl

pub connect-made : (seen : Seen) (local : Local) (a : Addr) (flags protocol duration : ℕ) (c : List ℕ) (now : ℕ) → MakesNothing (connect seen local a flags protocol duration c now)
connect-made seen local a flags protocol duration c now =
    heard-made (client_at a local.bindings) now (connect_row (request_of a flags duration c) (has_bit flags 3) (seen.of c) now (refusal_of seen local.dialogs a c flags protocol))
    (connect_row-made (request_of a flags duration c) (has_bit flags 3) (seen.of c) now (refusal_of seen local.dialogs a c flags protocol))

disconnect_draft-made : (a : Addr) (c : List ℕ) (s : Session) (duration : Option ℕ) → SameMade (disconnect_draft a c s duration) nothing
disconnect_draft-made a c s None = refl
disconnect_draft-made a c s (Some duration) = either-draft (duration == 0) (leave a c s) (fall_asleep a duration) refl refl

disconnect_of-made : (seen : Seen) (a : Addr) (bound : Option (List ℕ)) (duration : Option ℕ) (now : ℕ) → MakesNothing (disconnect_of seen a bound duration now)
disconnect_of-made seen a None duration now = refl
disconnect_of-made seen a (Some c) duration now = disconnect_draft-made a c (session_of seen c) duration

pub disconnect-made : (seen : Seen) (local : Local) (a : Addr) (duration : Option ℕ) (now : ℕ) → MakesNothing (disconnect seen local a duration now)
disconnect-made seen local a duration now = disconnect_of-made seen a (client_at a local.bindings) duration now

concluded-made : (seen : Seen) (request : Request) (given : GivenWill) (now : ℕ) → MakesNothing (concluded seen request given now)
concluded-made seen request given now = either (has_no_room seen request.client) (dismissed request congestion) (row_of Resend request.client (accept request given (seen.of request.client) now)) refl refl

given-made : (dialog : WillDialog) (topic : Option WillTopic) → MakesNothing (topic_given dialog topic)
given-made dialog None = refl
given-made dialog (Some topic) = refl

topic-made : (seen : Seen) (dialog : WillDialog) (will : Option Will) (now : ℕ) → MakesNothing (topic_row seen dialog will now)
topic-made seen dialog None now = concluded-made seen dialog.request Deleted now
topic-made seen dialog (Some will) now = given-made dialog (topic_asked will)

message-made : (seen : Seen) (request : Request) (topic : WillTopic) (message : List ℕ) (now : ℕ) → MakesNothing (message_row seen request topic message now)
message-made seen request topic message now =
    either (nat_lt 4096 (length message)) (dismissed request not_supported) (concluded seen request (Replaced (will_of topic message)) now) refl (concluded-made seen request (Replaced (will_of topic message)) now)

module _ (seen : Seen) (a : Addr) (now : ℕ) where
  topic_in-made : (bound : Option (List ℕ)) (dialog : WillDialog) (will : Option Will) (awaited : Awaited) → MakesNothing (will_topic_in seen a bound dialog will now awaited)
  topic_in-made bound dialog will Topic = heard-made bound now (topic_row seen dialog will now) (topic-made seen dialog will now)
  topic_in-made bound dialog will (Message topic) = stray-made a bound now

  topic_at-made : (bound : Option (List ℕ)) (dialog : Option WillDialog) (will : Option Will) → MakesNothing (will_topic_from seen a bound dialog will now)
  topic_at-made bound None will = stray-made a bound now
  topic_at-made bound (Some dialog) will = topic_in-made bound dialog will dialog.awaited

  message_in-made : (bound : Option (List ℕ)) (request : Request) (message : List ℕ) (awaited : Awaited) → MakesNothing (message_in seen a bound request message now awaited)
  message_in-made bound request message Topic = stray-made a bound now
  message_in-made bound request message (Message topic) = heard-made bound now (message_row seen request topic message now) (message-made seen request topic message now)

  message_at-made : (bound : Option (List ℕ)) (dialog : Option WillDialog) (message : List ℕ) → MakesNothing (will_message_from seen a bound dialog message now)
  message_at-made bound None message = stray-made a bound now
  message_at-made bound (Some dialog) message = message_in-made bound dialog.request message dialog.awaited

  register_of-made : (bound : Option (List ℕ)) (msg_id : ℕ) (name : List ℕ) → MakesNothing (register_of seen a bound msg_id name now)
  register_of-made None msg_id name = refl
  register_of-made (Some c) msg_id name = hands-nothing _ (of_register a (session_of seen c) msg_id name)

  subscribe_of-puts : (predefined : Entries) (bound : Option (List ℕ)) (bits msg_id : ℕ) (field : List ℕ) → (subscribe_of predefined seen a bound bits msg_id field now).draft.puts ≡ []
  subscribe_of-puts predefined None bits msg_id field = refl
  subscribe_of-puts predefined (Some c) bits msg_id field = (of_subscribe predefined seen (waiting_for seen c) a (session_of seen c) bits msg_id field).puts

  subscribe_of-retain : (predefined : Entries) (bound : Option (List ℕ)) (bits msg_id : ℕ) (field : List ℕ) → (subscribe_of predefined seen a bound bits msg_id field now).draft.retain ≡ None
  subscribe_of-retain predefined None bits msg_id field = refl
  subscribe_of-retain predefined (Some c) bits msg_id field = (of_subscribe predefined seen (waiting_for seen c) a (session_of seen c) bits msg_id field).retain

  unsubscribe_of-made : (predefined : Entries) (bound : Option (List ℕ)) (bits msg_id : ℕ) (field : List ℕ) → MakesNothing (unsubscribe_of predefined seen a bound bits msg_id field now)
  unsubscribe_of-made predefined None bits msg_id field = refl
  unsubscribe_of-made predefined (Some c) bits msg_id field = hands-nothing _ (of_unsubscribe predefined a (session_of seen c) bits msg_id field)

  message_update_of-made : (bound : Option (List ℕ)) (message : List ℕ) → MakesNothing (message_update_of seen a bound message now)
  message_update_of-made None message = refl
  message_update_of-made (Some c) message = hands-nothing _ (of_will_msg_update a (session_of seen c) message)

  pub will_topic-made : (local : Local) (will : Option Will) → MakesNothing (will_topic seen local a will now)
  will_topic-made local will = topic_at-made (client_at a local.bindings) (dialog_at a local.dialogs) will

  pub will_msg-made : (local : Local) (message : List ℕ) → MakesNothing (will_msg seen local a message now)
  will_msg-made local message = message_at-made (client_at a local.bindings) (dialog_at a local.dialogs) message

  pub register-made : (local : Local) (msg_id : ℕ) (name : List ℕ) → MakesNothing (register_topic seen local a msg_id name now)
  register-made local msg_id name = register_of-made (client_at a local.bindings) msg_id name

  pub subscribe-puts : (predefined : Entries) (local : Local) (bits msg_id : ℕ) (field : List ℕ) → (subscribe_topics predefined seen local a bits msg_id field now).draft.puts ≡ []
  subscribe-puts predefined local bits msg_id field = subscribe_of-puts predefined (client_at a local.bindings) bits msg_id field

  pub subscribe-retain : (predefined : Entries) (local : Local) (bits msg_id : ℕ) (field : List ℕ) → (subscribe_topics predefined seen local a bits msg_id field now).draft.retain ≡ None
  subscribe-retain predefined local bits msg_id field = subscribe_of-retain predefined (client_at a local.bindings) bits msg_id field

  pub unsubscribe-made : (predefined : Entries) (local : Local) (bits msg_id : ℕ) (field : List ℕ) → MakesNothing (unsubscribe_topics predefined seen local a bits msg_id field now)
  unsubscribe-made predefined local bits msg_id field = unsubscribe_of-made predefined (client_at a local.bindings) bits msg_id field

  pub will_msg_update-made : (local : Local) (message : List ℕ) → MakesNothing (update_message seen local a message now)
  will_msg_update-made local message = message_update_of-made (client_at a local.bindings) message

topic_update_of-made : (a : Addr) (bound : Option (List ℕ)) (will : Option Will) (now : ℕ) → MakesNothing (topic_update_of a bound will now)
topic_update_of-made a None will now = refl
topic_update_of-made a (Some c) will now = hands-nothing _ (of_will_topic_update a will)

pub will_topic_update-made : (local : Local) (a : Addr) (will : Option Will) (now : ℕ) → MakesNothing (update_topic local a will now)
will_topic_update-made local a will now = topic_update_of-made a (client_at a local.bindings) will now
