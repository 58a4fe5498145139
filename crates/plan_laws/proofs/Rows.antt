-- Each row of the step table has a sound draft.
use Rattle.std.proofs.Common.{◌≡◌, ℕ, ◌+◌, ◌≤◌, ◌==◌, Bool, true, false, ◌&&◌, ◌||◌, nat_le, nat_lt, is_none, is_some, cond, if◌then◌else◌, List, [], ◌∷◌, ◌++◌, map, filter, filter_map, fold, length, Option, Some, None, IfSome, option_map, option_and_then, unwrap_or, refl, ap, ◌∙◌, true≢false, arith, le-leb, leb-true, ltb-false, bytes_eq, IsTrue}
use Rattle.std.specs.Prelude.{min, find}
use Rattle.std.specs.List.{AllByRecursion, cons_option}
use Rattle.std.proofs.lemmas.Bool.{and_parts, and_from, or_parts}
use Rattle.sn_topic.specs.Table.{Entries}
use Rattle.sn_topic.specs.Topics.{name_asked}
use Rattle.sn_session.specs.declared.presence.Presence.{Presence as State}
use Rattle.sn_session.specs.declared.presence.Presence.TheVariants.{Active, Asleep, Awake, Disconnected, Lost}
use Rattle.sn_session.specs.declared.outbound.Outbound.{Outbound as Exchange}
use Rattle.sn_session.specs.declared.outbound.Phase.{Phase}
use Rattle.sn_session.specs.declared.outbound.Phase.TheVariants.{Registering, Published, Released}
use Rattle.sn_session.specs.declared.session.Session.{Session}
use Rattle.sn_tables.specs.declared.topics.TopicEntry.{TopicEntry}
use Rattle.sn_session.specs.declared.will.Will.{Will as SessionWill}
use Rattle.sn_session.specs.declared.will.WillTopic.{WillTopic}
use Rattle.sn_session.specs.declared.change.SessionOp.{SessionOp}
use Rattle.sn_session.specs.declared.change.SessionOp.TheVariants.{Take, Presence, Register, Subscribe, Unsubscribe, WillTopic as SetTopic, WillMsg, Received, Released as Release, Outbound}
use Rattle.sn_tables.specs.Received.{is_received, id_has_no_room}
use Rattle.sn_session.specs.Session.{empty_session}
use Rattle.sn_tables.specs.Topics.{topic_named, free_id}
use Rattle.sn_tables.specs.Subscriptions.{filter_qos, subscribed_qos, filter_has_no_room}
use Rattle.sn_frame.specs.declared.flags.Qos.{Qos}
use Rattle.sn_frame.specs.declared.flags.Qos.TheVariants as levels
use Rattle.sn_frame.specs.declared.flags.TopicIdType.{TopicIdType}
use Rattle.sn_frame.specs.declared.flags.TopicIdType.TheVariants as kinds
use Rattle.sn_frame.specs.declared.frame.Frame.{Frame}
use Rattle.sn_frame.specs.declared.frame.Frame.TheVariants as frames
use Rattle.sn_frame.specs.declared.frame.Will.{Will}
use Rattle.sn_frame.specs.FlagBits.{qos_of, kind_of}
use Rattle.rep_op.specs.declared.op.Put.{Put}
use Rattle.rep_op.specs.declared.op.Op.{Op}
use Rattle.rep_op.specs.Orders.{name_of}
use Rattle.rep_ops.specs.Making.{AreWellMade}
use Rattle.sn_tables.specs.Levels.{is_qos}
use Rattle.sn_topic.specs.Table.{is_topic_id}
use Rattle.rep_op.specs.Ranges.{is_topic, is_message, is_will, is_will_topic, is_exchange, is_session}
use Rattle.rep_model.specs.declared.view.ClientView.{ClientView}
use Rattle.rep_model.specs.Views.{view, clients}
use Rattle.sn_local.specs.declared.config.Addr.{Addr}
use Rattle.sn_flow.specs.declared.accept.GivenWill.{GivenWill}
use Rattle.sn_flow.specs.declared.accept.GivenWill.TheVariants.{AsItIs, Deleted, Replaced}
use Rattle.sn_plan.specs.declared.asking.Asked.{Asked}
use Rattle.sn_plan.specs.declared.asking.Asked.TheVariants.{Topics, Refused}
use Rattle.sn_plan.specs.declared.draft.NewPut.{NewPut}
use Rattle.sn_local.specs.declared.local.Awaited.{Awaited}
use Rattle.sn_local.specs.declared.local.Awaited.TheVariants.{Topic, Message}
use Rattle.sn_local.specs.declared.local.LocalChange.TheVariants.{Bind, Unbind, Time, Heard, Resent, Ask, EndDialog}
use Rattle.sn_local.specs.declared.local.Request.{Request}
use Rattle.sn_local.specs.declared.local.WillDialog.{WillDialog}
use Rattle.sn_subscribe.specs.declared.registration.NamedId.{NamedId}
use Rattle.sn_plan.specs.declared.row.Row.{Row}
use Rattle.sn_flow.specs.Accept.{will_after, with_ids_unknown, going_on, as_asked, accepted, cleared, accept, has_no_room}
use Rattle.sn_plan.specs.Asking.{qos_asked, topics_asked, id_in}
use Rattle.sn_local.specs.Bindings.{client_at, same_address, is_stamp_of}
use Rattle.sn_plan.specs.Bound.{bound_to, heard_of, session_of}
use Rattle.sn_flow.specs.Connection.{has_bit, request_of, refusal_of, ask_topic, connect_row, connect, leave, fall_asleep, disconnect_draft, disconnect_of, disconnect}
use Rattle.sn_plan.specs.Drafts.{Drafted, nothing, changed, changed_if, acked, acked_all, put_all, sent, moved}
use Rattle.sn_local.specs.Locals.{Local}
use Rattle.sn_plan.specs.Others.{is_up}
use Rattle.sn_local.specs.Seen.{Seen, seen_of}
use Rattle.sn_subscribe.specs.Registration.{entry_id, new_id, entry_or_free, id_for, registered, register_name, register as register_draft}
use Rattle.sn_plan.specs.Rows.{row_of, row_of_none, row_with_timer, turned_away, unexpected_row}
use Rattle.sn_subscribe.specs.Subscription.{suback, refused, fixed_id, id_in_full, id_asked, subscribe_change, subscribed, subscribe_to, subscribe_asked, subscribe_at, subscribe as subscribe_draft, unsubscribe_change, unsubscribe_asked, unsubscribe as unsubscribe_draft}
use Rattle.sn_subscribe.specs.Handing.{waiting_for, handed_for}
use Rattle.sn_subscribe.specs.TopicRows.{register_of, register, subscribe_of, subscribe, unsubscribe_of, unsubscribe}
use Rattle.sn_local.specs.Timers.{started}
use Rattle.sn_local.specs.WillDialogs.{dialog_at}
use Rattle.sn_flow.specs.Wills.{congestion, not_supported, dismissed, concluded, ask_message, topic_given, topic_row, will_topic_in, will_topic_from, will_topic, will_of, message_row, message_in, will_message_from, will_msg, topic_update_of, will_topic_update, message_update_of, will_msg_update}
use Rattle.sn_flow.specs.WillUpdate.{topic_from, topic_asked, topic_accepted, topic_set, will_topic_update as topic_update, has_no_place, will_msg_update as message_update}
use Rattle.sn_publish.specs.declared.meaning.Meant.{Meant}
use Rattle.sn_publish.specs.declared.meaning.Meant.TheVariants as meanings
use Rattle.sn_exchange.specs.declared.peer.Peer.{Peer}
use Rattle.sn_deliver.specs.Acknowledging.{same_phase, if_awaits, awaiting, put_of_exchange, put_awaiting, over, done, id_told, entry_by_kind, entry_if_normal, entry_published, forgotten, puback_put, puback_of, pubrel_sent, released, awaiting_pubrec, is_at_two, pubrec_again, pubrec_of, pubcomp_of, id_known, regack_put, regack_of, acknowledge}
use Rattle.sn_exchange.specs.Exchanges.{same_name, put_named, put_left, message_of, is_open_in, if_open, open_exchange}
use Rattle.sn_exchange.specs.Following.{peer_at}
use Rattle.sn_exchange.specs.Forms.{form_again}
use Rattle.step_laws.specs.Laws.{AreNamedApart}
use Rattle.sn_publish.specs.Publishing.{topic_meant, within_limit, publication_meant, publish_at_0, publish_at_1, publish_at_2, publish_at, publish_meant, publish, spread_meant, publish_unconnected, release, pubrel}
use Rattle.sn_publish.specs.Recipients.{admitted, effective_qos, qos_in, qos_for, message_for, put_for, puts_among, puts_for, is_another, puts_of_will}
use Rattle.sn_deliver.specs.Serving.{publish_of, publish_in_at, publish_in, pubrel_of, ack_row, ack_in}
use Rattle.sn_deliver.specs.Waking.{claimed, has_nothing, from_sleep, from_wake, woken_by, woken_if, woken, wake_of, wake}
use Rattle.plan_laws.specs.KeepsWell.{is_asked, AreAsked}
use Rattle.plan_laws.proofs.Sessions.{Fine, IsChange, fine-to, all-found, unknown-fine, empty-fine}
use Rattle.plan_laws.proofs.Kept.{IsWell, view-fine, seen-fine, pending-well, pending-apart}
use Rattle.plan_laws.proofs.Sound.{IsNamed, IsMessage, Sound, well-named, all-named, all-once, choose-sound, sound-nothing, sound-changed, sound-changed_if, sound-acked, sound-acked_all, sound-hand_all, sound-put_all, sound-sent, sound-moved}
use Rattle.plan_laws.proofs.Retained.{handed-fine}
use Rattle.plan_laws.proofs.Following.{free-fine}

abbrev pub IsSoundRow : Row → Type 0
IsSoundRow row = Sound row.draft

pub sent-nothing : (a : Addr) (frame : Frame) → Sound (sent a frame nothing)
sent-nothing a frame = sound-sent a frame nothing sound-nothing

pub heard-sound : (bound : Option (List ℕ)) (now : ℕ) (row : Row) → IsSoundRow row → IsSoundRow (row_with_timer bound now row)
heard-sound None now row h = h
heard-sound (Some c) now row h = sound-moved (Heard c now) row.draft tt h

pub stray-sound : (a : Addr) (bound : Option (List ℕ)) (now : ℕ) → IsSoundRow (unexpected_row a bound now)
stray-sound a None now = sent-nothing a (frames.Disconnect None)
stray-sound a (Some c) now = sound-moved (Heard c now) nothing tt sound-nothing

pub choose-row : (b : Bool) (x y : Row) → IsSoundRow x → IsSoundRow y → IsSoundRow (if b then x else y)
choose-row true x y h k = h
choose-row false x y h k = k

-- numbers that are not above
pub not-above : (n m : ℕ) → nat_lt n m ≡ false → nat_le m n ≡ true
not-above n m e = le-leb m n (ltb-false n m e)

-- ---- connections

abbrev IsGiven : GivenWill → Type 0
IsGiven AsItIs = Unit {0}
IsGiven Deleted = Unit {0}
IsGiven (Replaced will) = is_will (Some will) ≡ true

will-fine : (given : GivenWill) (will : Option SessionWill) → IsGiven given → is_will will ≡ true → is_will (will_after given will) ≡ true
will-fine AsItIs will g h = h
will-fine Deleted will g h = refl
will-fine (Replaced other) will g h = g

unknowing-fine : (s : Session) → Fine s → Fine (with_ids_unknown s)
unknowing-fine s f = record { next = f.next; topics = unknown-fine s.topics f.topics; subscriptions = f.subscriptions; will = f.will; exchange = f.exchange }

going_on-fine : (clean : Bool) (session : Option Session) → IfSome session Fine → Fine (going_on clean session)
going_on-fine clean None f = empty-fine
going_on-fine true (Some s) f = empty-fine
going_on-fine false (Some s) f = unknowing-fine s f

accepted-fine : (request : Request) (given : GivenWill) (session : Option Session) → IsGiven given → IfSome session Fine → Fine (accepted request given session)
accepted-fine request given session g f =
    let s : Session = going_on request.clean session in
    let h : Fine s = going_on-fine request.clean session f in
    record { next = h.next; topics = h.topics; subscriptions = h.subscriptions; will = will-fine given s.will g h.will; exchange = h.exchange }

cleared-named : (clean : Bool) (waiting : List Put) → AllByRecursion IsWell waiting → AllByRecursion IsNamed (cleared clean waiting)
cleared-named true waiting well = all-named waiting well
cleared-named false waiting well = tt

acked_all-sound : (clean : Bool) (waiting : List Put) (d : Drafted) → d.acks ≡ [] → AllByRecursion IsWell waiting → AreNamedApart waiting → Sound d → Sound (acked_all (cleared clean waiting) d)
acked_all-sound true waiting d none well apart h = sound-acked_all (map name_of waiting) d none (all-named waiting well) (all-once waiting apart) h
acked_all-sound false waiting d none well apart h = sound-acked_all [] d none tt tt h

pub bound-sound : (a : Addr) (c : List ℕ) (now : ℕ) (d : Drafted) → Sound d → Sound (bound_to a c now d)
bound-sound a c now d h = sound-moved (Time (started c now)) _ tt (sound-moved (Bind a c) d tt h)

accept-sound : (request : Request) (given : GivenWill) (v : ClientView) (now : ℕ) → IsGiven given → IfSome v.session Fine → AllByRecursion IsWell v.pending → AreNamedApart v.pending → Sound (accept request given v now)
accept-sound request given v now g f well apart =
    let begun : Drafted = changed (Take (accepted request given v.session)) nothing in
    sound-sent request.address (frames.ConnAck 0) _
    (sound-moved (EndDialog request.address) _ tt
    (bound-sound request.address request.client now _
    (acked_all-sound request.clean v.pending begun refl well apart
    (sound-changed (Take (accepted request given v.session)) nothing (fine-to (accepted request given v.session) (accepted-fine request given v.session g f)) sound-nothing))))

module _ (S : List Op) (made : AreWellMade S) where
  -- the client as it is seen
  accept-seen : (request : Request) (given : GivenWill) (now : ℕ) → IsGiven given → Sound (accept request given (view request.client S) now)
  accept-seen request given now g = accept-sound request given (view request.client S) now g (view-fine request.client S made) (pending-well request.client S made) (pending-apart request.client S)

  connect_row-sound : (request : Request) (will : Bool) (now : ℕ) (code : Option ℕ) → IsSoundRow (connect_row request will (view request.client S) now code)
  connect_row-sound request will now (Some code) = sent-nothing request.address (frames.ConnAck code)
  connect_row-sound request true now None =
      sound-sent request.address frames.WillTopicReq _ (sound-moved (Ask (record { request = request; begun = now; awaited = Topic })) nothing refl sound-nothing)
  connect_row-sound request false now None = accept-seen request AsItIs now tt

  pub connect-sound : (local : Local) (a : Addr) (flags protocol duration : ℕ) (c : List ℕ) (now : ℕ) → IsSoundRow (connect (seen_of S) local a flags protocol duration c now)
  connect-sound local a flags protocol duration c now =
      heard-sound (client_at a local.bindings) now (connect_row (request_of a flags duration c) (has_bit flags 3) (view c S) now (refusal_of (seen_of S) local.dialogs a c flags protocol))
      (connect_row-sound (request_of a flags duration c) (has_bit flags 3) now (refusal_of (seen_of S) local.dialogs a c flags protocol))

  leave-sound : (a : Addr) (c : List ℕ) (s : Session) → Sound (leave a c s)
  leave-sound a c s = sound-sent a (frames.Disconnect None) _ (sound-moved (Unbind c) _ tt (sound-changed (Presence Disconnected s.duration) nothing refl sound-nothing))

  disconnect_draft-sound : (a : Addr) (c : List ℕ) (s : Session) (duration : Option ℕ) → Sound (disconnect_draft a c s duration)
  disconnect_draft-sound a c s None = leave-sound a c s
  disconnect_draft-sound a c s (Some duration) =
      choose-sound (duration == 0) _ _ (leave-sound a c s) (sound-sent a (frames.Disconnect None) _ (sound-changed (Presence Asleep duration) nothing refl sound-nothing))

  disconnect_of-sound : (a : Addr) (bound : Option (List ℕ)) (duration : Option ℕ) (now : ℕ) → IsSoundRow (disconnect_of (seen_of S) a bound duration now)
  disconnect_of-sound a None duration now = sent-nothing a (frames.Disconnect None)
  disconnect_of-sound a (Some c) duration now = sound-moved (Heard c now) _ tt (disconnect_draft-sound a c (session_of (seen_of S) c) duration)

  pub disconnect-sound : (local : Local) (a : Addr) (duration : Option ℕ) (now : ℕ) → IsSoundRow (disconnect (seen_of S) local a duration now)
  disconnect-sound local a duration now = disconnect_of-sound a (client_at a local.bindings) duration now

-- ---- wills

choose-asked : (P : WillDialog → Type 0) (b : Bool) (d : WillDialog) (o : Option WillDialog) → P d → IfSome o P → IfSome (if b then Some d else o) P
choose-asked P true d o h k = h
choose-asked P false d o h k = k

dialog-asked : (a : Addr) (dialogs : List WillDialog) → AreAsked dialogs → IfSome (dialog_at a dialogs) (λ (d : WillDialog). is_asked d.awaited ≡ true)
dialog-asked a [] all = tt
dialog-asked a (d ∷ rest) all = choose-asked (λ (d : WillDialog). is_asked d.awaited ≡ true) (same_address d.request.address a) d (dialog_at a rest) all.0 (dialog-asked a rest all.1)

asked-fine : (qos : Qos) → IfSome (qos_asked qos) (λ n. is_qos n ≡ true)
asked-fine levels.Zero = refl
asked-fine levels.One = refl
asked-fine levels.Two = refl
asked-fine levels.MinusOne = tt

topic_from-fine : (name : Option (List ℕ)) (qos : Option ℕ) (retain : Bool) → IfSome qos (λ n. is_qos n ≡ true) → IfSome (topic_from name qos retain) (λ (t : WillTopic). is_qos t.qos ≡ true)
topic_from-fine None qos retain h = tt
topic_from-fine (Some name) None retain h = tt
topic_from-fine (Some name) (Some qos) retain h = h

topic_asked-fine : (will : Will) → IfSome (topic_asked will) (λ (t : WillTopic). is_qos t.qos ≡ true)
topic_asked-fine will = topic_from-fine (name_asked will.topic) (qos_asked (qos_of will.flags.bits)) (has_bit will.flags.bits 4) (asked-fine (qos_of will.flags.bits))

dismissed-sound : (request : Request) (code : ℕ) → IsSoundRow (dismissed request code)
dismissed-sound request code = sound-sent request.address (frames.ConnAck code) _ (sound-moved (EndDialog request.address) nothing tt sound-nothing)

topic_given-sound : (dialog : WillDialog) (topic : Option WillTopic) → IfSome topic (λ (t : WillTopic). is_qos t.qos ≡ true) → IsSoundRow (topic_given dialog topic)
topic_given-sound dialog None h = dismissed-sound dialog.request not_supported
topic_given-sound dialog (Some topic) h =
    sound-sent dialog.request.address frames.WillMsgReq _ (sound-moved (Ask (record dialog { awaited = Message topic })) nothing h sound-nothing)

topic_set-sound : (a : Addr) (topic : Option WillTopic) → IfSome topic (λ (t : WillTopic). is_qos t.qos ≡ true) → Sound (topic_set a topic)
topic_set-sound a None h = sent-nothing a (frames.WillTopicResp 3)
topic_set-sound a (Some topic) h = sound-sent a (frames.WillTopicResp 0) _ (sound-changed (SetTopic (Some topic)) nothing h sound-nothing)

topic_update-sound : (a : Addr) (will : Option Will) → Sound (topic_update a will)
topic_update-sound a None = sound-sent a (frames.WillTopicResp 0) _ (sound-changed (SetTopic None) nothing refl sound-nothing)
topic_update-sound a (Some will) = topic_set-sound a (topic_asked will) (topic_asked-fine will)

message_update-sound : (a : Addr) (s : Session) (message : List ℕ) → Sound (message_update a s message)
message_update-sound a s message =
    elim (has_no_place s message) as (λ b. has_no_place s message ≡ b → Sound (if b then sent a (frames.WillMsgResp 3) nothing else sent a (frames.WillMsgResp 0) (changed (WillMsg message) nothing))) [
      | true ↦ λ _. sent-nothing a (frames.WillMsgResp 3)
      | false ↦ λ e.
          let short = (or_parts (nat_lt 4096 (length message)) (is_none s.will) e).0 in
          sound-sent a (frames.WillMsgResp 0) _ (sound-changed (WillMsg message) nothing (not-above 4096 (length message) short) sound-nothing)
    ] refl

pub topic_update_of-sound : (a : Addr) (bound : Option (List ℕ)) (will : Option Will) (now : ℕ) → IsSoundRow (topic_update_of a bound will now)
topic_update_of-sound a None will now = sent-nothing a (frames.Disconnect None)
topic_update_of-sound a (Some c) will now = sound-moved (Heard c now) _ tt (topic_update-sound a will)

pub message_update_of-sound : (seen : Seen) (a : Addr) (bound : Option (List ℕ)) (message : List ℕ) (now : ℕ) → IsSoundRow (message_update_of seen a bound message now)
message_update_of-sound seen a None message now = sent-nothing a (frames.Disconnect None)
message_update_of-sound seen a (Some c) message now = sound-moved (Heard c now) _ tt (message_update-sound a (session_of seen c) message)

module _ (S : List Op) (made : AreWellMade S) where
  concluded-sound : (request : Request) (given : GivenWill) (now : ℕ) → IsGiven given → IsSoundRow (concluded (seen_of S) request given now)
  concluded-sound request given now g =
      choose-row (has_no_room (seen_of S) request.client) _ _ (dismissed-sound request congestion) (accept-seen S made request given now g)

  topic_row-sound : (dialog : WillDialog) (will : Option Will) (now : ℕ) → IsSoundRow (topic_row (seen_of S) dialog will now)
  topic_row-sound dialog None now = concluded-sound dialog.request Deleted now tt
  topic_row-sound dialog (Some will) now = topic_given-sound dialog (topic_asked will) (topic_asked-fine will)

  topic_in-sound : (a : Addr) (bound : Option (List ℕ)) (dialog : WillDialog) (will : Option Will) (now : ℕ) (awaited : Awaited) → IsSoundRow (will_topic_in (seen_of S) a bound dialog will now awaited)
  topic_in-sound a bound dialog will now Topic = heard-sound bound now (topic_row (seen_of S) dialog will now) (topic_row-sound dialog will now)
  topic_in-sound a bound dialog will now (Message topic) = stray-sound a bound now

  topic_at-sound : (a : Addr) (bound : Option (List ℕ)) (dialog : Option WillDialog) (will : Option Will) (now : ℕ) → IsSoundRow (will_topic_from (seen_of S) a bound dialog will now)
  topic_at-sound a bound None will now = stray-sound a bound now
  topic_at-sound a bound (Some dialog) will now = topic_in-sound a bound dialog will now dialog.awaited

  pub will_topic-sound : (local : Local) (a : Addr) (will : Option Will) (now : ℕ) → IsSoundRow (will_topic (seen_of S) local a will now)
  will_topic-sound local a will now = topic_at-sound a (client_at a local.bindings) (dialog_at a local.dialogs) will now

  message_row-sound : (request : Request) (topic : WillTopic) (message : List ℕ) (now : ℕ) → is_qos topic.qos ≡ true → IsSoundRow (message_row (seen_of S) request topic message now)
  message_row-sound request topic message now q =
      elim (nat_lt 4096 (length message)) as (λ b. nat_lt 4096 (length message) ≡ b → IsSoundRow (if b then dismissed request not_supported else concluded (seen_of S) request (Replaced (will_of topic message)) now)) [
        | true ↦ λ _. dismissed-sound request not_supported
        | false ↦ λ e. concluded-sound request (Replaced (will_of topic message)) now (and_from (is_qos topic.qos) (is_message message) q (not-above 4096 (length message) e))
      ] refl

  message_in-sound : (a : Addr) (bound : Option (List ℕ)) (request : Request) (message : List ℕ) (now : ℕ) (awaited : Awaited) → is_asked awaited ≡ true → IsSoundRow (message_in (seen_of S) a bound request message now awaited)
  message_in-sound a bound request message now Topic q = stray-sound a bound now
  message_in-sound a bound request message now (Message topic) q = heard-sound bound now (message_row (seen_of S) request topic message now) (message_row-sound request topic message now q)

  message_at-sound : (a : Addr) (bound : Option (List ℕ)) (dialog : Option WillDialog) (message : List ℕ) (now : ℕ) → IfSome dialog (λ (d : WillDialog). is_asked d.awaited ≡ true) → IsSoundRow (will_message_from (seen_of S) a bound dialog message now)
  message_at-sound a bound None message now q = stray-sound a bound now
  message_at-sound a bound (Some dialog) message now q = message_in-sound a bound dialog.request message now dialog.awaited q

  pub will_msg-sound : (local : Local) → AreAsked local.dialogs → (a : Addr) (message : List ℕ) (now : ℕ) → IsSoundRow (will_msg (seen_of S) local a message now)
  will_msg-sound local asked a message now = message_at-sound a (client_at a local.bindings) (dialog_at a local.dialogs) message now (dialog-asked a local.dialogs asked)

-- ---- topics

known-fine : (b : Bool) (id : ℕ) (name : List ℕ) → is_topic_id id ≡ true → IfSome (if b then None else Some (Register id name true)) IsChange
known-fine true id name h = tt
known-fine false id name h = h

named-fine : (name : List ℕ) (entry : Option TopicEntry) (free : Option ℕ) → IfSome entry (λ e. is_topic e ≡ true) → IfSome free (λ id. is_topic_id id ≡ true) → IfSome (entry_or_free name entry free) (λ (named : NamedId). IfSome named.change IsChange)
named-fine name None None h k = tt
named-fine name None (Some id) h k = k
named-fine name (Some entry) free h k = known-fine entry.known entry.id name h

id_for-fine : (s : Session) (name : List ℕ) → Fine s → IfSome (id_for s name) (λ (named : NamedId). IfSome named.change IsChange)
id_for-fine s name f = named-fine name (topic_named name s.topics) (free_id s.topics) (all-found is_topic (λ (e : TopicEntry). bytes_eq e.name name) s.topics f.topics) (free-fine s.topics)

registered-sound : (a : Addr) (msg_id : ℕ) (named : Option NamedId) → IfSome named (λ (n : NamedId). IfSome n.change IsChange) → Sound (registered a msg_id named)
registered-sound a msg_id None h = sent-nothing a (frames.RegAck 0 msg_id 1)
registered-sound a msg_id (Some named) h = sound-sent a (frames.RegAck named.id msg_id 0) _ (sound-changed_if named.change nothing h sound-nothing)

register_name-sound : (a : Addr) (s : Session) (msg_id : ℕ) (name : Option (List ℕ)) → Fine s → Sound (register_name a s msg_id name)
register_name-sound a s msg_id None f = sent-nothing a (frames.RegAck 0 msg_id 3)
register_name-sound a s msg_id (Some name) f = registered-sound a msg_id (id_for s name) (id_for-fine s name f)

id_in_full-fine : (s : Session) (name : Option (List ℕ)) → Fine s → IfSome (id_in_full s name) (λ (named : NamedId). IfSome named.change IsChange)
id_in_full-fine s None f = tt
id_in_full-fine s (Some name) f = id_for-fine s name f

id_asked-fine : (s : Session) (kind : TopicIdType) (field filter : List ℕ) → Fine s → IfSome (id_asked s kind field filter) (λ (named : NamedId). IfSome named.change IsChange)
id_asked-fine s kinds.Normal field filter f = id_in_full-fine s (name_asked filter) f
id_asked-fine s kinds.Predefined field filter f = tt
id_asked-fine s kinds.Short field filter f = tt
id_asked-fine s kinds.Reserved field filter f = tt

differs-fine : (b : Bool) (filter : List ℕ) (qos : ℕ) → is_qos qos ≡ true → IfSome (if b then None else Some (Subscribe filter qos)) IsChange
differs-fine true filter qos h = tt
differs-fine false filter qos h = h

subscribe_change-fine : (filter : List ℕ) (qos : ℕ) (before : Option ℕ) → is_qos qos ≡ true → IfSome (subscribe_change filter qos before) IsChange
subscribe_change-fine filter qos None h = h
subscribe_change-fine filter qos (Some before) h = differs-fine (before == qos) filter qos h

module _ (S : List Op) (made : AreWellMade S) (waiting : ℕ) (a : Addr) (s : Session) (bits msg_id : ℕ) where
  subscribed-sound : (filter : List ℕ) (qos : ℕ) (named : Option NamedId) → is_qos qos ≡ true → IfSome named (λ (n : NamedId). IfSome n.change IsChange) → Sound (subscribed (seen_of S) waiting a s bits msg_id filter qos named)
  subscribed-sound filter qos None q h = sent-nothing a (suback bits 0 msg_id 1)
  subscribed-sound filter qos (Some named) q h =
      sound-hand_all (handed_for (seen_of S) filter qos waiting) _ (handed-fine S made filter qos waiting)
      (sound-sent a (suback bits named.id msg_id 0) _
      (sound-changed_if (subscribe_change filter qos (filter_qos filter s.subscriptions)) _ (subscribe_change-fine filter qos (filter_qos filter s.subscriptions) q)
      (sound-changed_if named.change nothing h sound-nothing)))

  asked-sound : (field : List ℕ) (asked : Asked) (qos : ℕ) → Fine s → is_qos qos ≡ true → Sound (subscribe_asked (seen_of S) waiting a s bits msg_id field asked qos)
  asked-sound field (Refused code) qos f q = sent-nothing a (suback bits 0 msg_id code)
  asked-sound field (Topics filter) qos f q =
      choose-sound (filter_has_no_room filter s.subscriptions) _ _ (sent-nothing a (suback bits 0 msg_id 1))
      (subscribed-sound filter qos (id_asked s (kind_of bits) field filter) q (id_asked-fine s (kind_of bits) field filter f))

  subscribe_at-sound : (p : Entries) (field : List ℕ) (qos : Option ℕ) → Fine s → IfSome qos (λ n. is_qos n ≡ true) → Sound (subscribe_at p (seen_of S) waiting a s bits msg_id field qos)
  subscribe_at-sound p field None f q = sent-nothing a (suback bits 0 msg_id 3)
  subscribe_at-sound p field (Some qos) f q = asked-sound field (topics_asked p (kind_of bits) field) qos f q

present-fine : (b : Bool) (filter : List ℕ) → IfSome (if b then Some (Unsubscribe filter) else None) IsChange
present-fine true filter = refl
present-fine false filter = tt

unsubscribe_asked-fine : (s : Session) (asked : Asked) → IfSome (unsubscribe_asked s asked) IsChange
unsubscribe_asked-fine s (Refused code) = tt
unsubscribe_asked-fine s (Topics filter) = present-fine (is_some (filter_qos filter s.subscriptions)) filter

module _ (S : List Op) (made : AreWellMade S) where
  pub register_of-sound : (a : Addr) (bound : Option (List ℕ)) (msg_id : ℕ) (name : List ℕ) (now : ℕ) → IsSoundRow (register_of (seen_of S) a bound msg_id name now)
  register_of-sound a None msg_id name now = sent-nothing a (frames.Disconnect None)
  register_of-sound a (Some c) msg_id name now = sound-moved (Heard c now) _ tt (register_name-sound a (session_of (seen_of S) c) msg_id (name_asked name) (seen-fine c S made))

  pub subscribe_of-sound : (p : Entries) (a : Addr) (bound : Option (List ℕ)) (bits msg_id : ℕ) (field : List ℕ) (now : ℕ) → IsSoundRow (subscribe_of p (seen_of S) a bound bits msg_id field now)
  subscribe_of-sound p a None bits msg_id field now = sent-nothing a (frames.Disconnect None)
  subscribe_of-sound p a (Some c) bits msg_id field now =
      sound-moved (Heard c now) _ tt (subscribe_at-sound S made (waiting_for (seen_of S) c) a (session_of (seen_of S) c) bits msg_id p field (qos_asked (qos_of bits)) (seen-fine c S made) (asked-fine (qos_of bits)))

  pub unsubscribe_of-sound : (p : Entries) (a : Addr) (bound : Option (List ℕ)) (bits msg_id : ℕ) (field : List ℕ) (now : ℕ) → IsSoundRow (unsubscribe_of p (seen_of S) a bound bits msg_id field now)
  unsubscribe_of-sound p a None bits msg_id field now = sent-nothing a (frames.Disconnect None)
  unsubscribe_of-sound p a (Some c) bits msg_id field now =
      let asked : Asked = topics_asked p (kind_of bits) field in
      sound-moved (Heard c now) _ tt
      (sound-sent a (frames.UnsubAck msg_id) _ (sound-changed_if (unsubscribe_asked (session_of (seen_of S) c) asked) nothing (unsubscribe_asked-fine (session_of (seen_of S) c) asked) sound-nothing))
