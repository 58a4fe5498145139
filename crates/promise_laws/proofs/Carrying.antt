-- The changes of each row carry over what the session has received; only a PUBLISH that is accepted brings an id.
use Rattle.std.proofs.Common.{◌≡◌, ℕ, ◌==◌, Bool, true, false, ◌⊎◌, is_some, if◌then◌else◌, List, [], ◌∷◌, length, Option, Some, None, IfSome, unwrap_or, refl, sym, ap, ◌∙◌, subst, true≢false, inl, inr}
use Rattle.std.specs.List.{AllByRecursion}
use Rattle.sn_topic.specs.Table.{Entries}
use Rattle.sn_topic.specs.Topics.{name_asked}
use Rattle.sn_session.specs.declared.presence.Presence.{Presence as State}
use Rattle.sn_session.specs.declared.presence.Presence.TheVariants.{Active, Asleep, Awake, Disconnected, Lost}
use Rattle.sn_session.specs.declared.outbound.Outbound.{Outbound as Exchange}
use Rattle.sn_session.specs.declared.outbound.Phase.TheVariants as phases
use Rattle.sn_session.specs.declared.session.Session.{Session}
use Rattle.sn_session.specs.declared.will.WillTopic.{WillTopic}
use Rattle.sn_session.specs.declared.change.SessionOp.{SessionOp}
use Rattle.sn_session.specs.declared.change.SessionOp.TheVariants.{Take, Presence, Register, Subscribe, Unsubscribe, Received, Released as Release}
use Rattle.sn_session.specs.Messages.{is_too_long}
use Rattle.sn_session.specs.Session.{empty_session}
use Rattle.sn_tables.specs.declared.topics.TopicEntry.{TopicEntry}
use Rattle.sn_tables.specs.Received.{is_received, id_has_no_room}
use Rattle.sn_tables.specs.Topics.{topic_named, free_id}
use Rattle.sn_tables.specs.Subscriptions.{filter_qos, filter_has_no_room}
use Rattle.sn_frame.specs.declared.flags.Flags.{Flags}
use Rattle.sn_frame.specs.declared.flags.Qos.{Qos}
use Rattle.sn_frame.specs.declared.flags.Qos.TheVariants as levels
use Rattle.sn_frame.specs.declared.flags.TopicIdType.{TopicIdType}
use Rattle.sn_frame.specs.declared.flags.TopicIdType.TheVariants as kinds
use Rattle.sn_frame.specs.declared.frame.Frame.{Frame}
use Rattle.sn_frame.specs.declared.frame.Frame.TheVariants as frames
use Rattle.sn_frame.specs.declared.frame.Will.{Will}
use Rattle.sn_frame.specs.FlagBits.{qos_of, kind_of}
use Rattle.rep_op.specs.declared.op.Put.{Put}
use Rattle.sn_local.specs.declared.config.Addr.{Addr}
use Rattle.sn_local.specs.declared.local.Awaited.{Awaited}
use Rattle.sn_local.specs.declared.local.Awaited.TheVariants.{Topic, Message}
use Rattle.sn_local.specs.declared.local.LocalChange.{LocalChange}
use Rattle.sn_local.specs.declared.local.LocalChange.TheVariants.{Heard}
use Rattle.sn_local.specs.declared.local.Request.{Request}
use Rattle.sn_local.specs.declared.local.WillDialog.{WillDialog}
use Rattle.sn_local.specs.Bindings.{client_at, is_stamp_of}
use Rattle.sn_local.specs.Locals.{Local}
use Rattle.sn_local.specs.Seen.{Seen}
use Rattle.sn_local.specs.WillDialogs.{dialog_at}
use Rattle.sn_flow.specs.declared.accept.GivenWill.{GivenWill}
use Rattle.sn_flow.specs.declared.accept.GivenWill.TheVariants.{AsItIs, Deleted, Replaced}
use Rattle.sn_flow.specs.Accept.{going_on, accept, has_no_room}
use Rattle.sn_flow.specs.Connection.{has_bit, request_of, refusal_of, connect_row, connect, leave, fall_asleep, disconnect_draft, disconnect_of}
use Rattle.sn_flow.specs.Wills.{congestion, not_supported, dismissed, concluded, topic_given, topic_row, will_topic_in, will_topic_from, will_of, message_row, message_in, will_message_from, topic_update_of, message_update_of}
use Rattle.sn_flow.specs.WillUpdate.{topic_asked, topic_set, will_topic_update as topic_update, has_no_place, message_accepted}
use Rattle.sn_plan.specs.declared.asking.Asked.{Asked}
use Rattle.sn_plan.specs.declared.asking.Asked.TheVariants.{Topics, Refused}
use Rattle.sn_plan.specs.declared.row.Row.{Row}
use Rattle.sn_plan.specs.declared.row.Follow.TheVariants as follows
use Rattle.sn_plan.specs.Asking.{qos_asked, retain_asked, topics_asked}
use Rattle.sn_plan.specs.Bound.{bound_to, session_of}
use Rattle.sn_plan.specs.Drafts.{Drafted, nothing, changed, changed_if, sent, moved}
use Rattle.sn_plan.specs.Others.{other}
use Rattle.sn_plan.specs.Rows.{row_of, row_with_timer, unexpected_row}
use Rattle.sn_plan.proofs.Lists.{all-append}
use Rattle.sn_subscribe.specs.declared.registration.NamedId.{NamedId}
use Rattle.sn_subscribe.specs.Registration.{entry_or_free, id_for, registered, register_name}
use Rattle.sn_subscribe.specs.Subscription.{refused, id_in_full, id_asked, subscribe_change, subscribed, subscribe_asked, subscribe_at, unsubscribe_asked}
use Rattle.sn_subscribe.specs.Handing.{waiting_for}
use Rattle.sn_subscribe.specs.TopicRows.{register_of, subscribe_of, unsubscribe_of}
use Rattle.sn_publish.specs.declared.meaning.Meant.{Meant}
use Rattle.sn_publish.specs.declared.meaning.Meant.TheVariants as meanings
use Rattle.sn_publish.specs.Publishing.{publication_meant, posted, publish_at, publish_meant, release}
use Rattle.sn_exchange.specs.declared.peer.Peer.{Peer}
use Rattle.sn_exchange.specs.Following.{peer_at}
use Rattle.sn_deliver.specs.Acknowledging.{awaiting, put_awaiting, over, done, id_told, entry_published, forgotten, puback_of, awaiting_pubrec, pubrec_again, pubrec_of, pubcomp_of, id_known, regack_of, acknowledge}
use Rattle.sn_deliver.specs.Serving.{publish_of, publish_in_at, pubrel_of, ack_row}
use Rattle.sn_deliver.specs.Waking.{claimed, has_nothing, ping_answered, woken_by, woken_if, woken, wake_of, wake}
use Rattle.sn_deliver.specs.Steps.{row_for}
use Rattle.promise_laws.proofs.Bringing.{Brings}

-- The frame is a PUBLISH at quality of service 2 of the client that is bound to the address, with this id, about a topic. The
-- session has not received the id, and has room for it.
pub record IsNewPublish (predefined : Entries) (seen : Seen) (local : Local) (a : Addr) (frame : Frame) (c : List ℕ) (id : ℕ) : Type 0 where
  pub flags : Flags
  pub topic : ℕ
  pub body : List ℕ
  pub name : List ℕ
  pub is : frame ≡ frames.Publish flags topic id body
  pub at_two : qos_of flags.bits ≡ levels.Two
  pub bound : client_at a local.bindings ≡ Some c
  pub about : publication_meant predefined (session_of seen c) flags.bits topic body ≡ meanings.Topic name
  pub fresh : is_received id (session_of seen c).received ≡ false
  pub room : id_has_no_room id (session_of seen c).received ≡ false

-- a session that goes on has received nothing else
going-had : (clean : Bool) (session : Option Session) (id : ℕ) → is_received id (going_on clean session).received ≡ true → is_received id (unwrap_or session empty_session).received ≡ true
going-had clean None id h = h
going-had true (Some s) id h = absurd (true≢false (sym h))
going-had false (Some s) id h = h

-- A c id says that the step accepts a PUBLISH of the client with this id
module _ (seen : Seen) (A : List ℕ → ℕ → Type 0) where
  -- an id that the change brings was received by the client's session, or is accepted in this step
  abbrev pub IsCarried : List ℕ → SessionOp → Type 0
  IsCarried c change = (id : ℕ) → Brings id change → (is_received id (session_of seen c).received ≡ true) ⊎ A c id

  abbrev pub Carried : List ℕ → Drafted → Type 0
  Carried c d = AllByRecursion (IsCarried c) d.changes

  abbrev pub CarriedFor : Option (List ℕ) → Drafted → Type 0
  CarriedFor None d = Unit {0}
  CarriedFor (Some c) d = Carried c d

  abbrev pub CarriedRow : Row → Type 0
  CarriedRow row = CarriedFor row.client row.draft

  pub carried-more : (c : List ℕ) (change : SessionOp) (d : Drafted) → IsCarried c change → Carried c d → Carried c (changed change d)
  carried-more c change d h k = all-append (IsCarried c) d.changes (change ∷ []) k (h, tt)

  pub carried-if : (c : List ℕ) (change : Option SessionOp) (d : Drafted) → IfSome change (IsCarried c) → Carried c d → Carried c (changed_if change d)
  carried-if c None d h k = k
  carried-if c (Some change) d h k = carried-more c change d h k

  pub choose-carried : (c : List ℕ) (b : Bool) (x y : Drafted) → Carried c x → Carried c y → Carried c (if b then x else y)
  choose-carried c true x y h k = h
  choose-carried c false x y h k = k

  choose-row : (b : Bool) (x y : Row) → CarriedRow x → CarriedRow y → CarriedRow (if b then x else y)
  choose-row true x y h k = h
  choose-row false x y h k = k

  some-carried : (c : List ℕ) (b : Bool) (change : SessionOp) → IsCarried c change → IfSome (if b then Some change else None) (IsCarried c)
  some-carried c true change h = h
  some-carried c false change h = tt

  none-or-carried : (c : List ℕ) (b : Bool) (change : SessionOp) → IsCarried c change → IfSome (if b then None else Some change) (IsCarried c)
  none-or-carried c true change h = tt
  none-or-carried c false change h = h

  for-moved : (client : Option (List ℕ)) (change : LocalChange) (d : Drafted) → CarriedFor client d → CarriedFor client (moved change d)
  for-moved None change d h = tt
  for-moved (Some c) change d h = h

  heard-carried : (bound : Option (List ℕ)) (now : ℕ) (row : Row) → CarriedRow row → CarriedRow (row_with_timer bound now row)
  heard-carried None now row h = h
  heard-carried (Some c) now row h = for-moved row.client (Heard c now) row.draft h

  stray-carried : (a : Addr) (bound : Option (List ℕ)) (now : ℕ) → CarriedRow (unexpected_row a bound now)
  stray-carried a None now = tt
  stray-carried a (Some c) now = tt

  -- ---- connections

  accept-carried : (request : Request) (given : GivenWill) (now : ℕ) → Carried request.client (accept request given (seen.of request.client) now)
  accept-carried request given now = ((λ id b. inl (going-had request.clean (seen.of request.client).session id b)), tt)

  connect_row-carried : (request : Request) (will : Bool) (now : ℕ) (code : Option ℕ) → CarriedRow (connect_row request will (seen.of request.client) now code)
  connect_row-carried request will now (Some code) = tt
  connect_row-carried request true now None = tt
  connect_row-carried request false now None = accept-carried request AsItIs now

  connect-carried : (local : Local) (a : Addr) (flags protocol duration : ℕ) (c : List ℕ) (now : ℕ) → CarriedRow (connect seen local a flags protocol duration c now)
  connect-carried local a flags protocol duration c now =
      heard-carried (client_at a local.bindings) now (connect_row (request_of a flags duration c) (has_bit flags 3) (seen.of c) now (refusal_of seen local.dialogs a c flags protocol))
      (connect_row-carried (request_of a flags duration c) (has_bit flags 3) now (refusal_of seen local.dialogs a c flags protocol))

  leave-carried : (a : Addr) (c : List ℕ) (s : Session) → Carried c (leave a c s)
  leave-carried a c s = ((λ id b. absurd b), tt)

  disconnect_draft-carried : (a : Addr) (c : List ℕ) (s : Session) (duration : Option ℕ) → Carried c (disconnect_draft a c s duration)
  disconnect_draft-carried a c s None = leave-carried a c s
  disconnect_draft-carried a c s (Some duration) =
      choose-carried c (duration == 0) (leave a c s) (fall_asleep a duration) (leave-carried a c s) ((λ id b. absurd b), tt)

  disconnect_of-carried : (a : Addr) (bound : Option (List ℕ)) (duration : Option ℕ) (now : ℕ) → CarriedRow (disconnect_of seen a bound duration now)
  disconnect_of-carried a None duration now = tt
  disconnect_of-carried a (Some c) duration now = disconnect_draft-carried a c (session_of seen c) duration

  -- ---- wills

  concluded-carried : (request : Request) (given : GivenWill) (now : ℕ) → CarriedRow (concluded seen request given now)
  concluded-carried request given now =
      choose-row (has_no_room seen request.client) (dismissed request congestion) (row_of follows.Resend request.client (accept request given (seen.of request.client) now))
      tt (accept-carried request given now)

  topic_given-carried : (dialog : WillDialog) (topic : Option WillTopic) → CarriedRow (topic_given dialog topic)
  topic_given-carried dialog None = tt
  topic_given-carried dialog (Some topic) = tt

  topic_row-carried : (dialog : WillDialog) (will : Option Will) (now : ℕ) → CarriedRow (topic_row seen dialog will now)
  topic_row-carried dialog None now = concluded-carried dialog.request Deleted now
  topic_row-carried dialog (Some will) now = topic_given-carried dialog (topic_asked will)

  topic_in-carried : (a : Addr) (bound : Option (List ℕ)) (dialog : WillDialog) (will : Option Will) (now : ℕ) (awaited : Awaited) → CarriedRow (will_topic_in seen a bound dialog will now awaited)
  topic_in-carried a bound dialog will now Topic = heard-carried bound now (topic_row seen dialog will now) (topic_row-carried dialog will now)
  topic_in-carried a bound dialog will now (Message topic) = stray-carried a bound now

  topic_at-carried : (a : Addr) (bound : Option (List ℕ)) (dialog : Option WillDialog) (will : Option Will) (now : ℕ) → CarriedRow (will_topic_from seen a bound dialog will now)
  topic_at-carried a bound None will now = stray-carried a bound now
  topic_at-carried a bound (Some dialog) will now = topic_in-carried a bound dialog will now dialog.awaited

  message_row-carried : (request : Request) (topic : WillTopic) (message : List ℕ) (now : ℕ) → CarriedRow (message_row seen request topic message now)
  message_row-carried request topic message now =
      choose-row (is_too_long message) (dismissed request not_supported) (concluded seen request (Replaced (will_of topic message)) now)
      tt (concluded-carried request (Replaced (will_of topic message)) now)

  message_in-carried : (a : Addr) (bound : Option (List ℕ)) (request : Request) (message : List ℕ) (now : ℕ) (awaited : Awaited) → CarriedRow (message_in seen a bound request message now awaited)
  message_in-carried a bound request message now Topic = stray-carried a bound now
  message_in-carried a bound request message now (Message topic) = heard-carried bound now (message_row seen request topic message now) (message_row-carried request topic message now)

  message_at-carried : (a : Addr) (bound : Option (List ℕ)) (dialog : Option WillDialog) (message : List ℕ) (now : ℕ) → CarriedRow (will_message_from seen a bound dialog message now)
  message_at-carried a bound None message now = stray-carried a bound now
  message_at-carried a bound (Some dialog) message now = message_in-carried a bound dialog.request message now dialog.awaited

  topic_set-carried : (a : Addr) (c : List ℕ) (topic : Option WillTopic) → Carried c (topic_set a topic)
  topic_set-carried a c None = tt
  topic_set-carried a c (Some topic) = ((λ id b. absurd b), tt)

  topic_update-carried : (a : Addr) (c : List ℕ) (will : Option Will) → Carried c (topic_update a will)
  topic_update-carried a c None = ((λ id b. absurd b), tt)
  topic_update-carried a c (Some will) = topic_set-carried a c (topic_asked will)

  topic_update_of-carried : (a : Addr) (bound : Option (List ℕ)) (will : Option Will) (now : ℕ) → CarriedRow (topic_update_of a bound will now)
  topic_update_of-carried a None will now = tt
  topic_update_of-carried a (Some c) will now = topic_update-carried a c will

  message_update_of-carried : (a : Addr) (bound : Option (List ℕ)) (message : List ℕ) (now : ℕ) → CarriedRow (message_update_of seen a bound message now)
  message_update_of-carried a None message now = tt
  message_update_of-carried a (Some c) message now =
      choose-carried c (has_no_place (session_of seen c) message) (sent a (frames.WillMsgResp 3) nothing) (message_accepted a message) tt ((λ id b. absurd b), tt)

  -- ---- topics

  named-carried : (c name : List ℕ) (entry : Option TopicEntry) (free : Option ℕ) → IfSome (entry_or_free name entry free) (λ (named : NamedId). IfSome named.change (IsCarried c))
  named-carried c name None None = tt
  named-carried c name None (Some id) = λ other b. absurd b
  named-carried c name (Some entry) free = none-or-carried c entry.known (Register entry.id name true) (λ id b. absurd b)

  id_for-carried : (c : List ℕ) (s : Session) (name : List ℕ) → IfSome (id_for s name) (λ (named : NamedId). IfSome named.change (IsCarried c))
  id_for-carried c s name = named-carried c name (topic_named name s.topics) (free_id s.topics)

  registered-carried : (a : Addr) (c : List ℕ) (msg_id : ℕ) (named : Option NamedId) → IfSome named (λ (n : NamedId). IfSome n.change (IsCarried c)) → Carried c (registered a msg_id named)
  registered-carried a c msg_id None h = tt
  registered-carried a c msg_id (Some named) h = carried-if c named.change nothing h tt

  register_name-carried : (a : Addr) (c : List ℕ) (s : Session) (msg_id : ℕ) (name : Option (List ℕ)) → Carried c (register_name a s msg_id name)
  register_name-carried a c s msg_id None = tt
  register_name-carried a c s msg_id (Some name) = registered-carried a c msg_id (id_for s name) (id_for-carried c s name)

  register_of-carried : (a : Addr) (bound : Option (List ℕ)) (msg_id : ℕ) (name : List ℕ) (now : ℕ) → CarriedRow (register_of seen a bound msg_id name now)
  register_of-carried a None msg_id name now = tt
  register_of-carried a (Some c) msg_id name now = register_name-carried a c (session_of seen c) msg_id (name_asked name)

  in_full-carried : (c : List ℕ) (s : Session) (name : Option (List ℕ)) → IfSome (id_in_full s name) (λ (named : NamedId). IfSome named.change (IsCarried c))
  in_full-carried c s None = tt
  in_full-carried c s (Some name) = id_for-carried c s name

  id_asked-carried : (c : List ℕ) (s : Session) (kind : TopicIdType) (field filter : List ℕ) → IfSome (id_asked s kind field filter) (λ (named : NamedId). IfSome named.change (IsCarried c))
  id_asked-carried c s kinds.Normal field filter = in_full-carried c s (name_asked filter)
  id_asked-carried c s kinds.Predefined field filter = tt
  id_asked-carried c s kinds.Short field filter = tt
  id_asked-carried c s kinds.Reserved field filter = tt

  subscribe_change-carried : (c filter : List ℕ) (qos : ℕ) (before : Option ℕ) → IfSome (subscribe_change filter qos before) (IsCarried c)
  subscribe_change-carried c filter qos None = λ id b. absurd b
  subscribe_change-carried c filter qos (Some before) = none-or-carried c (before == qos) (Subscribe filter qos) (λ id b. absurd b)

  subscribed-carried : (waiting : ℕ) (a : Addr) (c : List ℕ) (s : Session) (bits msg_id : ℕ) (filter : List ℕ) (qos : ℕ) (named : Option NamedId) → IfSome named (λ (n : NamedId). IfSome n.change (IsCarried c)) → Carried c (subscribed seen waiting a s bits msg_id filter qos named)
  subscribed-carried waiting a c s bits msg_id filter qos None h = tt
  subscribed-carried waiting a c s bits msg_id filter qos (Some named) h =
      carried-if c (subscribe_change filter qos (filter_qos filter s.subscriptions)) (changed_if named.change nothing) (subscribe_change-carried c filter qos (filter_qos filter s.subscriptions))
      (carried-if c named.change nothing h tt)

  asked-carried : (waiting : ℕ) (a : Addr) (c : List ℕ) (s : Session) (bits msg_id : ℕ) (field : List ℕ) (asked : Asked) (qos : ℕ) → Carried c (subscribe_asked seen waiting a s bits msg_id field asked qos)
  asked-carried waiting a c s bits msg_id field (Refused code) qos = tt
  asked-carried waiting a c s bits msg_id field (Topics filter) qos =
      choose-carried c (filter_has_no_room filter s.subscriptions) (refused a bits msg_id 1) (subscribed seen waiting a s bits msg_id filter qos (id_asked s (kind_of bits) field filter)) tt
      (subscribed-carried waiting a c s bits msg_id filter qos (id_asked s (kind_of bits) field filter) (id_asked-carried c s (kind_of bits) field filter))

  subscribe_at-carried : (p : Entries) (waiting : ℕ) (a : Addr) (c : List ℕ) (s : Session) (bits msg_id : ℕ) (field : List ℕ) (qos : Option ℕ) → Carried c (subscribe_at p seen waiting a s bits msg_id field qos)
  subscribe_at-carried p waiting a c s bits msg_id field None = tt
  subscribe_at-carried p waiting a c s bits msg_id field (Some qos) = asked-carried waiting a c s bits msg_id field (topics_asked p (kind_of bits) field) qos

  subscribe_of-carried : (p : Entries) (a : Addr) (bound : Option (List ℕ)) (bits msg_id : ℕ) (field : List ℕ) (now : ℕ) → CarriedRow (subscribe_of p seen a bound bits msg_id field now)
  subscribe_of-carried p a None bits msg_id field now = tt
  subscribe_of-carried p a (Some c) bits msg_id field now = subscribe_at-carried p (waiting_for seen c) a c (session_of seen c) bits msg_id field (qos_asked (qos_of bits))

  unsubscribe_asked-carried : (c : List ℕ) (s : Session) (asked : Asked) → IfSome (unsubscribe_asked s asked) (IsCarried c)
  unsubscribe_asked-carried c s (Refused code) = tt
  unsubscribe_asked-carried c s (Topics filter) = some-carried c (is_some (filter_qos filter s.subscriptions)) (Unsubscribe filter) (λ id b. absurd b)

  unsubscribe_of-carried : (p : Entries) (a : Addr) (bound : Option (List ℕ)) (bits msg_id : ℕ) (field : List ℕ) (now : ℕ) → CarriedRow (unsubscribe_of p seen a bound bits msg_id field now)
  unsubscribe_of-carried p a None bits msg_id field now = tt
  unsubscribe_of-carried p a (Some c) bits msg_id field now =
      let asked : Asked = topics_asked p (kind_of bits) field in
      carried-if c (unsubscribe_asked (session_of seen c) asked) nothing (unsubscribe_asked-carried c (session_of seen c) asked) tt

  -- ---- publications

  twice-carried : (asked : Bool) (a : Addr) (c : List ℕ) (topic msg_id : ℕ) (body name : List ℕ) (r f : Bool) → (r ≡ false → f ≡ false → A c msg_id)
      → Carried c (if r then sent a (frames.PubRec msg_id) nothing else (if f then sent a (frames.PubAck topic msg_id 1) nothing
      else sent a (frames.PubRec msg_id) (changed (Received msg_id) (posted seen asked name 2 body))))
  twice-carried asked a c topic msg_id body name true f accepts = tt
  twice-carried asked a c topic msg_id body name false true accepts = tt
  twice-carried asked a c topic msg_id body name false false accepts = ((λ id b. inr (subst (λ x. A c x) b (accepts refl refl))), tt)

  publish_at-carried : (asked : Bool) (a : Addr) (c : List ℕ) (topic msg_id : ℕ) (body name : List ℕ) (qos : Qos)
      → (qos ≡ levels.Two → is_received msg_id (session_of seen c).received ≡ false → id_has_no_room msg_id (session_of seen c).received ≡ false → A c msg_id)
      → Carried c (publish_at seen asked a (session_of seen c) topic msg_id body name qos)
  publish_at-carried asked a c topic msg_id body name levels.Zero accepts = tt
  publish_at-carried asked a c topic msg_id body name levels.One accepts = tt
  publish_at-carried asked a c topic msg_id body name levels.Two accepts =
      twice-carried asked a c topic msg_id body name (is_received msg_id (session_of seen c).received) (id_has_no_room msg_id (session_of seen c).received) (accepts refl)
  publish_at-carried asked a c topic msg_id body name levels.MinusOne accepts = tt

  publish_meant-carried : (asked : Bool) (a : Addr) (c : List ℕ) (topic msg_id : ℕ) (body : List ℕ) (qos : Qos) (meant : Meant)
      → ((name : List ℕ) → meant ≡ meanings.Topic name → qos ≡ levels.Two → is_received msg_id (session_of seen c).received ≡ false → id_has_no_room msg_id (session_of seen c).received ≡ false → A c msg_id)
      → Carried c (publish_meant seen asked a (session_of seen c) topic msg_id body qos meant)
  publish_meant-carried asked a c topic msg_id body qos (meanings.Refused code) accepts = tt
  publish_meant-carried asked a c topic msg_id body qos (meanings.Topic name) accepts = publish_at-carried asked a c topic msg_id body name qos (accepts name refl)

  module _ (predefined : Entries) (a : Addr) (bits topic msg_id : ℕ) (body : List ℕ) (now : ℕ) where
    publish_of-carried : (bound : Option (List ℕ))
        → ((c name : List ℕ) → bound ≡ Some c → publication_meant predefined (session_of seen c) bits topic body ≡ meanings.Topic name → qos_of bits ≡ levels.Two → is_received msg_id (session_of seen c).received ≡ false → id_has_no_room msg_id (session_of seen c).received ≡ false → A c msg_id)
        → CarriedRow (publish_of predefined seen a bound bits topic msg_id body now)
    publish_of-carried None accepts = tt
    publish_of-carried (Some c) accepts =
        publish_meant-carried (retain_asked bits) a c topic msg_id body (qos_of bits) (publication_meant predefined (session_of seen c) bits topic body) (λ name. accepts c name refl)

    publish_in-carried : (local : Local)
        → ((c name : List ℕ) → client_at a local.bindings ≡ Some c → publication_meant predefined (session_of seen c) bits topic body ≡ meanings.Topic name → qos_of bits ≡ levels.Two → is_received msg_id (session_of seen c).received ≡ false → id_has_no_room msg_id (session_of seen c).received ≡ false → A c msg_id)
        → (qos : Qos) → CarriedRow (publish_in_at predefined seen local a bits topic msg_id body now qos)
    publish_in-carried local accepts levels.MinusOne = tt
    publish_in-carried local accepts levels.Zero = publish_of-carried (client_at a local.bindings) accepts
    publish_in-carried local accepts levels.One = publish_of-carried (client_at a local.bindings) accepts
    publish_in-carried local accepts levels.Two = publish_of-carried (client_at a local.bindings) accepts

  pubrel_of-carried : (a : Addr) (bound : Option (List ℕ)) (msg_id now : ℕ) → CarriedRow (pubrel_of seen a bound msg_id now)
  pubrel_of-carried a None msg_id now = tt
  pubrel_of-carried a (Some c) msg_id now =
      carried-if c (release (session_of seen c) msg_id) nothing (some-carried c (is_received msg_id (session_of seen c).received) (Release msg_id) (λ id b. absurd b)) tt

  -- ---- acknowledgements

  module _ (c : List ℕ) (s : Session) (pending : List Put) where
    done-carried : (put : Put) → Carried c (done s put)
    done-carried put = ((λ id b. absurd b), tt)

    told-carried : (entry : TopicEntry) (known : Bool) → Carried c (over s (id_told entry known nothing))
    told-carried entry known = ((λ id b. absurd b), ((λ id b. absurd b), tt))

    forgotten-carried : (put : Put) (entry : Option TopicEntry) → Carried c (forgotten s put entry)
    forgotten-carried put None = done-carried put
    forgotten-carried put (Some entry) = told-carried entry false

    puback-carried : (p : Entries) (code : ℕ) (put : Option Put) → Carried c (puback_of p s code put)
    puback-carried p code None = tt
    puback-carried p code (Some put) =
        choose-carried c (code == 0) (if put.qos == 1 then done s put else nothing) _
        (choose-carried c (put.qos == 1) (done s put) nothing (done-carried put) tt)
        (choose-carried c (code == 1) nothing (if code == 2 then forgotten s put (entry_published p s put.topic) else done s put) tt
        (choose-carried c (code == 2) (forgotten s put (entry_published p s put.topic)) (done s put) (forgotten-carried put (entry_published p s put.topic)) (done-carried put)))

    again-carried : (peer : Peer) (msg_id : ℕ) (x : Option Exchange) → Carried c (pubrec_again peer msg_id x)
    again-carried peer msg_id None = tt
    again-carried peer msg_id (Some x) = tt

    pubrec-carried : (peer : Peer) (msg_id : ℕ) (x : Option Exchange) → Carried c (pubrec_of peer s pending msg_id x)
    pubrec-carried peer msg_id None = again-carried peer msg_id (awaiting s pending phases.Released msg_id)
    pubrec-carried peer msg_id (Some x) = ((λ id b. absurd b), tt)

    pubcomp-carried : (x : Option Exchange) → Carried c (pubcomp_of s x)
    pubcomp-carried None = tt
    pubcomp-carried (Some x) = ((λ id b. absurd b), tt)

    registered_by-carried : (entry : Option TopicEntry) → Carried c (id_known s entry)
    registered_by-carried None = tt
    registered_by-carried (Some entry) = told-carried entry true

    regack-carried : (code : ℕ) (put : Option Put) → Carried c (regack_of s code put)
    regack-carried code None = tt
    regack-carried code (Some put) =
        choose-carried c (code == 0) (id_known s (topic_named put.topic s.topics)) (if code == 1 then nothing else done s put) (registered_by-carried (topic_named put.topic s.topics))
        (choose-carried c (code == 1) nothing (done s put) tt (done-carried put))

    acknowledge-carried : (p : Entries) (peer : Peer) (frame : Frame) → Carried c (acknowledge p peer s pending frame)
    acknowledge-carried p peer (frames.PubAck topic_id msg_id code) = puback-carried p code (put_awaiting s pending phases.Published msg_id)
    acknowledge-carried p peer (frames.PubRec msg_id) = pubrec-carried peer msg_id (awaiting_pubrec s pending msg_id)
    acknowledge-carried p peer (frames.PubComp msg_id) = pubcomp-carried (awaiting s pending phases.Released msg_id)
    acknowledge-carried p peer (frames.RegAck topic_id msg_id code) = regack-carried code (put_awaiting s pending phases.Registering msg_id)
    acknowledge-carried p peer frame = tt

  ack_of-carried : (p : Entries) (a : Addr) (bound : Option (List ℕ)) (frame : Frame) (now : ℕ) → CarriedRow (ack_row p seen a bound frame now)
  ack_of-carried p a None frame now = tt
  ack_of-carried p a (Some c) frame now = acknowledge-carried c (session_of seen c) (seen.of c).pending p (peer_at a c now) frame

  -- ---- waking

  woken_by-carried : (a : Addr) (c : List ℕ) (s : Session) (idle : Bool) (d : Drafted) (state : State) → Carried c d → CarriedRow (woken_by a c s idle d state)
  woken_by-carried a c s idle d Active h = h
  woken_by-carried a c s idle d Asleep h =
      choose-row idle (row_of follows.Nothing c (ping_answered a d)) (row_of follows.Resend c (changed (Presence Awake s.duration) d)) h
      (carried-more c (Presence Awake s.duration) d (λ id b. absurd b) h)
  woken_by-carried a c s idle d Awake h =
      choose-row idle (row_of follows.Nothing c (ping_answered a (changed (Presence Asleep s.duration) d))) (row_of follows.Resend c d)
      (carried-more c (Presence Asleep s.duration) d (λ id b. absurd b) h) h
  woken_by-carried a c s idle d Disconnected h = tt
  woken_by-carried a c s idle d Lost h = tt

  woken_if-carried : (g : ℕ) (a : Addr) (c : List ℕ) (now : ℕ) (session : Option Session) → (seen.of c).session ≡ session → CarriedRow (woken_if g a c (seen.of c) now session)
  woken_if-carried g a c now None same = tt
  woken_if-carried g a c now (Some s) same =
      woken_by-carried a c s (has_nothing s (seen.of c).pending) (bound_to a c now (claimed g (seen.of c) s)) s.presence
      (choose-carried c (is_stamp_of g (seen.of c).stamp) nothing (changed (Take s) nothing) tt
      ((λ id b. inl (ap (λ (o : Option Session). is_received id (unwrap_or o empty_session).received) same ∙ b)), tt))

  wake_of-carried : (g : ℕ) (a : Addr) (bound : Option (List ℕ)) (now : ℕ) → CarriedRow (wake_of g seen a bound now)
  wake_of-carried g a None now = tt
  wake_of-carried g a (Some c) now = heard-carried (Some c) now (woken g seen a c now) (woken_if-carried g a c now (seen.of c).session refl)

  wake-carried : (g : ℕ) (local : Local) (a : Addr) (c : List ℕ) (now : ℕ) → CarriedRow (wake g seen local a c now)
  wake-carried g local a c now =
      choose-row (length c == 0) (wake_of g seen a (client_at a local.bindings) now) (row_with_timer (client_at a local.bindings) now (woken g seen a c now)) (wake_of-carried g a (client_at a local.bindings) now)
      (heard-carried (client_at a local.bindings) now (woken g seen a c now) (woken_if-carried g a c now (seen.of c).session refl))

  -- ---- other frames

  other-carried : (g : ℕ) (local : Local) (a : Addr) (frame : Frame) (now : ℕ) → CarriedRow (other g local a frame now)
  other-carried g local a (frames.SearchGw radius) now = tt
  other-carried g local a (frames.Advertise gateway duration) now = tt
  other-carried g local a (frames.GwInfo gateway address) now = tt
  other-carried g local a (frames.ConnAck code) now = tt
  other-carried g local a frames.WillTopicReq now = tt
  other-carried g local a frames.WillMsgReq now = tt
  other-carried g local a (frames.SubAck flags topic_id msg_id code) now = tt
  other-carried g local a (frames.UnsubAck msg_id) now = tt
  other-carried g local a (frames.WillTopicResp code) now = tt
  other-carried g local a (frames.WillMsgResp code) now = tt
  other-carried g local a frame now = stray-carried a (client_at a local.bindings) now

-- ---- every row

module _ (g : ℕ) (predefined : Entries) (seen : Seen) (local : Local) (a : Addr) where
  abbrev pub Accepted : Frame → List ℕ → ℕ → Type 0
  Accepted frame = IsNewPublish predefined seen local a frame

  pub row-carried : (frame : Frame) (now : ℕ) → CarriedRow seen (Accepted frame) (row_for g predefined seen local a frame now)
  row-carried (frames.Connect flags protocol duration client) now = connect-carried seen (Accepted (frames.Connect flags protocol duration client)) local a flags.bits protocol duration client now
  row-carried (frames.WillTopic will) now = topic_at-carried seen (Accepted (frames.WillTopic will)) a (client_at a local.bindings) (dialog_at a local.dialogs) will now
  row-carried (frames.WillMsg message) now = message_at-carried seen (Accepted (frames.WillMsg message)) a (client_at a local.bindings) (dialog_at a local.dialogs) message now
  row-carried (frames.Disconnect duration) now = disconnect_of-carried seen (Accepted (frames.Disconnect duration)) a (client_at a local.bindings) duration now
  row-carried (frames.Register topic_id msg_id name) now = register_of-carried seen (Accepted (frames.Register topic_id msg_id name)) a (client_at a local.bindings) msg_id name now
  row-carried (frames.Subscribe flags msg_id topic) now = subscribe_of-carried seen (Accepted (frames.Subscribe flags msg_id topic)) predefined a (client_at a local.bindings) flags.bits msg_id topic now
  row-carried (frames.Unsubscribe flags msg_id topic) now = unsubscribe_of-carried seen (Accepted (frames.Unsubscribe flags msg_id topic)) predefined a (client_at a local.bindings) flags.bits msg_id topic now
  row-carried (frames.WillTopicUpd will) now = topic_update_of-carried seen (Accepted (frames.WillTopicUpd will)) a (client_at a local.bindings) will now
  row-carried (frames.WillMsgUpd message) now = message_update_of-carried seen (Accepted (frames.WillMsgUpd message)) a (client_at a local.bindings) message now
  row-carried (frames.Publish flags topic msg_id body) now =
      publish_in-carried seen (Accepted (frames.Publish flags topic msg_id body)) predefined a flags.bits topic msg_id body now local
      (λ c name bound about two fresh room. record { flags = flags; topic = topic; body = body; name = name; is = refl; at_two = two; bound = bound; about = about; fresh = fresh; room = room })
      (qos_of flags.bits)
  row-carried (frames.PubRel msg_id) now = pubrel_of-carried seen (Accepted (frames.PubRel msg_id)) a (client_at a local.bindings) msg_id now
  row-carried (frames.PubAck topic_id msg_id code) now = ack_of-carried seen (Accepted (frames.PubAck topic_id msg_id code)) predefined a (client_at a local.bindings) (frames.PubAck topic_id msg_id code) now
  row-carried (frames.PubRec msg_id) now = ack_of-carried seen (Accepted (frames.PubRec msg_id)) predefined a (client_at a local.bindings) (frames.PubRec msg_id) now
  row-carried (frames.PubComp msg_id) now = ack_of-carried seen (Accepted (frames.PubComp msg_id)) predefined a (client_at a local.bindings) (frames.PubComp msg_id) now
  row-carried (frames.RegAck topic_id msg_id code) now = ack_of-carried seen (Accepted (frames.RegAck topic_id msg_id code)) predefined a (client_at a local.bindings) (frames.RegAck topic_id msg_id code) now
  row-carried (frames.PingReq client) now = wake-carried seen (Accepted (frames.PingReq client)) g local a client now
  row-carried frame now = other-carried seen (Accepted frame) g local a frame now
