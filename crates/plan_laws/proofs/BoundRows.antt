-- Each row of the step table leaves bound clients up.
use Rattle.std.proofs.Common.{inl, inr, ◌≡◌, ℕ, ◌==◌, Bool, true, false, nat_lt, is_some, if◌then◌else◌, List, [], ◌∷◌, filter, length, Option, Some, None, IfSome, refl, ap, ◌∙◌}
use Rattle.std.specs.List.{AllByRecursion}
use Rattle.sn_topic.specs.Table.{Entries}
use Rattle.sn_topic.specs.Topics.{name_asked}
use Rattle.sn_session.specs.declared.presence.Presence.{Presence as State}
use Rattle.sn_session.specs.declared.presence.Presence.TheVariants.{Active, Asleep, Awake, Disconnected, Lost}
use Rattle.sn_session.specs.declared.outbound.Outbound.{Outbound as Exchange}
use Rattle.sn_session.specs.declared.outbound.Phase.TheVariants.{Registering, Published, Released}
use Rattle.sn_session.specs.declared.session.Session.{Session}
use Rattle.sn_tables.specs.declared.topics.TopicEntry.{TopicEntry}
use Rattle.sn_session.specs.declared.will.WillTopic.{WillTopic}
use Rattle.sn_session.specs.declared.change.SessionOp.TheVariants.{Take, Presence, Register, Subscribe, Unsubscribe, WillTopic as SetTopic, WillMsg, Received, Released as Release, Outbound}
use Rattle.sn_tables.specs.Received.{is_received, id_has_no_room}
use Rattle.sn_session.specs.Session.{empty_session}
use Rattle.sn_tables.specs.Topics.{topic_named, free_id}
use Rattle.sn_tables.specs.Subscriptions.{filter_qos, filter_has_no_room}
use Rattle.sn_frame.specs.declared.flags.Qos.{Qos}
use Rattle.sn_frame.specs.declared.flags.Qos.TheVariants as levels
use Rattle.sn_frame.specs.declared.flags.TopicIdType.{TopicIdType}
use Rattle.sn_frame.specs.declared.flags.TopicIdType.TheVariants as kinds
use Rattle.sn_frame.specs.declared.frame.Frame.{Frame}
use Rattle.sn_frame.specs.declared.frame.Frame.TheVariants as frames
use Rattle.sn_frame.specs.declared.frame.Will.{Will}
use Rattle.sn_frame.specs.FlagBits.{qos_of, kind_of}
use Rattle.rep_op.specs.declared.op.Put.{Put}
use Rattle.rep_op.specs.declared.op.Op.{Op}
use Rattle.rep_op.specs.Orders.{name_of}
use Rattle.rep_model.specs.declared.view.ClientView.{ClientView}
use Rattle.rep_model.specs.Views.{view}
use Rattle.sn_local.specs.declared.config.Addr.{Addr}
use Rattle.sn_flow.specs.declared.accept.GivenWill.{GivenWill}
use Rattle.sn_flow.specs.declared.accept.GivenWill.TheVariants.{AsItIs, Deleted, Replaced}
use Rattle.sn_plan.specs.declared.asking.Asked.{Asked}
use Rattle.sn_plan.specs.declared.asking.Asked.TheVariants.{Topics, Refused}
use Rattle.sn_local.specs.declared.local.Awaited.{Awaited}
use Rattle.sn_local.specs.declared.local.Awaited.TheVariants.{Topic, Message}
use Rattle.sn_local.specs.declared.local.LocalChange.{LocalChange}
use Rattle.sn_local.specs.declared.local.LocalChange.TheVariants.{Heard, Resent}
use Rattle.sn_local.specs.declared.local.Request.{Request}
use Rattle.sn_local.specs.declared.local.WillDialog.{WillDialog}
use Rattle.sn_subscribe.specs.declared.registration.NamedId.{NamedId}
use Rattle.sn_plan.specs.declared.row.Row.{Row}
use Rattle.sn_flow.specs.Accept.{accept, has_no_room}
use Rattle.sn_plan.specs.Asking.{qos_asked, retain_asked, topics_asked}
use Rattle.sn_local.specs.Bindings.{client_at, is_stamp_of}
use Rattle.sn_plan.specs.Bound.{bound_to, session_of}
use Rattle.sn_flow.specs.Connection.{has_bit, request_of, refusal_of, ask_topic, connect_row, connect, leave, disconnect_draft, disconnect_of}
use Rattle.sn_plan.specs.Drafts.{Drafted, nothing, changed, moved}
use Rattle.sn_local.specs.Locals.{Local}
use Rattle.sn_plan.specs.Others.{is_up, can_wake, other}
use Rattle.sn_local.specs.Seen.{Seen, seen_of}
use Rattle.sn_subscribe.specs.Registration.{entry_or_free, id_for, registered, register_name}
use Rattle.sn_plan.specs.Rows.{row_with_timer, unexpected_row}
use Rattle.sn_subscribe.specs.Subscription.{suback, refused, id_in_full, id_asked, subscribe_change, subscribed, subscribe_asked, subscribe_at, unsubscribe_asked, unsubscribe as unsubscribe_draft}
use Rattle.sn_subscribe.specs.Handing.{waiting_for, handed_for}
use Rattle.sn_subscribe.specs.TopicRows.{register_of, subscribe_of, unsubscribe_of}
use Rattle.sn_local.specs.WillDialogs.{dialog_at}
use Rattle.sn_flow.specs.Wills.{congestion, not_supported, dismissed, concluded, topic_given, topic_row, will_topic_in, will_topic_from, will_of, message_row, message_in, will_message_from, topic_update_of, message_update_of}
use Rattle.sn_flow.specs.WillUpdate.{topic_asked, topic_set, will_topic_update as topic_update, has_no_place, will_msg_update as message_update}
use Rattle.sn_publish.specs.declared.meaning.Meant.{Meant}
use Rattle.sn_publish.specs.declared.meaning.Meant.TheVariants as meanings
use Rattle.sn_exchange.specs.declared.peer.Peer.{Peer}
use Rattle.sn_deliver.specs.Acknowledging.{awaiting, put_awaiting, over, done, id_told, entry_published, forgotten, puback_of, pubrel_sent, released, awaiting_pubrec, pubrec_again, pubrec_of, pubcomp_of, id_known, regack_of, acknowledge}
use Rattle.sn_exchange.specs.Exchanges.{message_of}
use Rattle.sn_exchange.specs.Following.{peer_at}
use Rattle.sn_publish.specs.Publishing.{publication_meant, posted, publish_at, publish_meant, spread_meant, release}
use Rattle.sn_publish.specs.Recipients.{puts_for}
use Rattle.sn_publish.specs.Retaining.{retained_of}
use Rattle.sn_deliver.specs.Serving.{publish_of, publish_in_at, pubrel_of, ack_row}
use Rattle.sn_deliver.specs.Waking.{claimed, has_nothing, woken_by, woken_if, woken, wake_of, wake}
use Rattle.sn_plan.proofs.Lists.{all-append}
use Rattle.sn_deliver.specs.Steps.{row_for}
use Rattle.plan_laws.proofs.BoundDrafts.{KeepsUp, IsNoBind, Fits, fits-nothing, fits-changed, fits-changed_if, fits-acked, fits-hand_all, fits-retain_if, fits-put_all, fits-sent, fits-moved, choose-fits}

-- a row for a client has a draft that fits; a row for nobody binds nobody
abbrev pub FitsFor : ℕ → List Op → Option (List ℕ) → Drafted → Type 0
FitsFor g S None d = AllByRecursion IsNoBind d.local
FitsFor g S (Some c) d = Fits g c (view c S) d

abbrev pub FitsRow : ℕ → List Op → Row → Type 0
FitsRow g S row = FitsFor g S row.client row.draft

module _ (g : ℕ) (S : List Op) where
  for-moved : (client : Option (List ℕ)) (change : LocalChange) (d : Drafted) → IsNoBind change → FitsFor g S client d → FitsFor g S client (moved change d)
  for-moved None change d none h = all-append IsNoBind d.local (change ∷ []) h (none, tt)
  for-moved (Some c) change d none h = fits-moved change d none h

  heard-fits : (bound : Option (List ℕ)) (now : ℕ) (row : Row) → FitsRow g S row → FitsRow g S (row_with_timer bound now row)
  heard-fits None now row h = h
  heard-fits (Some c) now row h = for-moved row.client (Heard c now) row.draft tt h

  pub stray-fits : (a : Addr) (bound : Option (List ℕ)) (now : ℕ) → FitsRow g S (unexpected_row a bound now)
  stray-fits a None now = tt
  stray-fits a (Some c) now = fits-moved (Heard c now) nothing tt fits-nothing

  choose-row : (b : Bool) (x y : Row) → FitsRow g S x → FitsRow g S y → FitsRow g S (if b then x else y)
  choose-row true x y h k = h
  choose-row false x y h k = k

-- ---- connections

accept-fits : (g : ℕ) (request : Request) (given : GivenWill) (v : ClientView) (now : ℕ) → Fits g request.client v (accept request given v now)
accept-fits g request given v now = record { is = inr (inl ((refl, tt), (refl, (tt, (tt, tt))), inr tt)) }

asked-fits : (g : ℕ) (c : List ℕ) (v : ClientView) (request : Request) (now : ℕ) → Fits g c v (ask_topic request now)
asked-fits g c v request now = record { is = inl (tt, (tt, tt)) }

leave-fits : (g : ℕ) (c : List ℕ) (v : ClientView) (a : Addr) (s : Session) → Fits g c v (leave a c s)
leave-fits g c v a s = record { is = inr (inr ((tt, tt), ([], [], refl))) }

disconnect_draft-fits : (g : ℕ) (c : List ℕ) (v : ClientView) (a : Addr) (s : Session) (duration : Option ℕ) → Fits g c v (disconnect_draft a c s duration)
disconnect_draft-fits g c v a s None = leave-fits g c v a s
disconnect_draft-fits g c v a s (Some duration) =
    choose-fits (duration == 0) _ _ (leave-fits g c v a s) (fits-sent a (frames.Disconnect None) _ (fits-changed (Presence Asleep duration) nothing refl fits-nothing))

module _ (g : ℕ) (S : List Op) where
  connect_row-fits : (request : Request) (will : Bool) (now : ℕ) (code : Option ℕ) → FitsRow g S (connect_row request will (view request.client S) now code)
  connect_row-fits request will now (Some code) = fits-sent request.address (frames.ConnAck code) nothing fits-nothing
  connect_row-fits request true now None = asked-fits g request.client (view request.client S) request now
  connect_row-fits request false now None = accept-fits g request AsItIs (view request.client S) now

  pub connect-fits : (local : Local) (a : Addr) (flags protocol duration : ℕ) (c : List ℕ) (now : ℕ) → FitsRow g S (connect (seen_of S) local a flags protocol duration c now)
  connect-fits local a flags protocol duration c now =
      heard-fits g S (client_at a local.bindings) now (connect_row (request_of a flags duration c) (has_bit flags 3) (view c S) now (refusal_of (seen_of S) local.dialogs a c flags protocol))
      (connect_row-fits (request_of a flags duration c) (has_bit flags 3) now (refusal_of (seen_of S) local.dialogs a c flags protocol))

  pub disconnect-fits : (a : Addr) (bound : Option (List ℕ)) (duration : Option ℕ) (now : ℕ) → FitsRow g S (disconnect_of (seen_of S) a bound duration now)
  disconnect-fits a None duration now = tt
  disconnect-fits a (Some c) duration now = fits-moved (Heard c now) _ tt (disconnect_draft-fits g c (view c S) a (session_of (seen_of S) c) duration)

  -- ---- wills

  dismissed-fits : (request : Request) (code : ℕ) → FitsRow g S (dismissed request code)
  dismissed-fits request code = record { is = inl (tt, (tt, tt)) }

  topic_given-fits : (dialog : WillDialog) (topic : Option WillTopic) → FitsRow g S (topic_given dialog topic)
  topic_given-fits dialog None = dismissed-fits dialog.request not_supported
  topic_given-fits dialog (Some topic) = record { is = inl (tt, (tt, tt)) }

  concluded-fits : (request : Request) (given : GivenWill) (now : ℕ) → FitsRow g S (concluded (seen_of S) request given now)
  concluded-fits request given now =
      choose-row g S (has_no_room (seen_of S) request.client) _ _ (dismissed-fits request congestion) (accept-fits g request given (view request.client S) now)

  topic_row-fits : (dialog : WillDialog) (will : Option Will) (now : ℕ) → FitsRow g S (topic_row (seen_of S) dialog will now)
  topic_row-fits dialog None now = concluded-fits dialog.request Deleted now
  topic_row-fits dialog (Some will) now = topic_given-fits dialog (topic_asked will)

  topic_in-fits : (a : Addr) (bound : Option (List ℕ)) (dialog : WillDialog) (will : Option Will) (now : ℕ) (awaited : Awaited) → FitsRow g S (will_topic_in (seen_of S) a bound dialog will now awaited)
  topic_in-fits a bound dialog will now Topic = heard-fits g S bound now (topic_row (seen_of S) dialog will now) (topic_row-fits dialog will now)
  topic_in-fits a bound dialog will now (Message topic) = stray-fits g S a bound now

  pub will_topic-fits : (a : Addr) (bound : Option (List ℕ)) (dialog : Option WillDialog) (will : Option Will) (now : ℕ) → FitsRow g S (will_topic_from (seen_of S) a bound dialog will now)
  will_topic-fits a bound None will now = stray-fits g S a bound now
  will_topic-fits a bound (Some dialog) will now = topic_in-fits a bound dialog will now dialog.awaited

  message_row-fits : (request : Request) (topic : WillTopic) (message : List ℕ) (now : ℕ) → FitsRow g S (message_row (seen_of S) request topic message now)
  message_row-fits request topic message now =
      choose-row g S (nat_lt 4096 (length message)) _ _ (dismissed-fits request not_supported) (concluded-fits request (Replaced (will_of topic message)) now)

  message_in-fits : (a : Addr) (bound : Option (List ℕ)) (request : Request) (message : List ℕ) (now : ℕ) (awaited : Awaited) → FitsRow g S (message_in (seen_of S) a bound request message now awaited)
  message_in-fits a bound request message now Topic = stray-fits g S a bound now
  message_in-fits a bound request message now (Message topic) =
      heard-fits g S bound now (message_row (seen_of S) request topic message now) (message_row-fits request topic message now)

  pub will_msg-fits : (a : Addr) (bound : Option (List ℕ)) (dialog : Option WillDialog) (message : List ℕ) (now : ℕ) → FitsRow g S (will_message_from (seen_of S) a bound dialog message now)
  will_msg-fits a bound None message now = stray-fits g S a bound now
  will_msg-fits a bound (Some dialog) message now = message_in-fits a bound dialog.request message now dialog.awaited

module _ (g : ℕ) (c : List ℕ) (v : ClientView) where
  topic_set-fits : (a : Addr) (topic : Option WillTopic) → Fits g c v (topic_set a topic)
  topic_set-fits a None = fits-sent a (frames.WillTopicResp 3) nothing fits-nothing
  topic_set-fits a (Some topic) = fits-sent a (frames.WillTopicResp 0) _ (fits-changed (SetTopic (Some topic)) nothing tt fits-nothing)

  topic_update-fits : (a : Addr) (will : Option Will) → Fits g c v (topic_update a will)
  topic_update-fits a None = fits-sent a (frames.WillTopicResp 0) _ (fits-changed (SetTopic None) nothing tt fits-nothing)
  topic_update-fits a (Some will) = topic_set-fits a (topic_asked will)

  message_update-fits : (a : Addr) (s : Session) (message : List ℕ) → Fits g c v (message_update a s message)
  message_update-fits a s message =
      choose-fits (has_no_place s message) _ _ (fits-sent a (frames.WillMsgResp 3) nothing fits-nothing)
      (fits-sent a (frames.WillMsgResp 0) _ (fits-changed (WillMsg message) nothing tt fits-nothing))

  -- ---- topics

  known-keeps : (b : Bool) (id : ℕ) (name : List ℕ) → IfSome (if b then None else Some (Register id name true)) KeepsUp
  known-keeps true id name = tt
  known-keeps false id name = tt

  named-keeps : (name : List ℕ) (entry : Option TopicEntry) (free : Option ℕ) → IfSome (entry_or_free name entry free) (λ (named : NamedId). IfSome named.change KeepsUp)
  named-keeps name None None = tt
  named-keeps name None (Some id) = tt
  named-keeps name (Some entry) free = known-keeps entry.known entry.id name

  id_for-keeps : (s : Session) (name : List ℕ) → IfSome (id_for s name) (λ (named : NamedId). IfSome named.change KeepsUp)
  id_for-keeps s name = named-keeps name (topic_named name s.topics) (free_id s.topics)

  registered-fits : (a : Addr) (msg_id : ℕ) (named : Option NamedId) → IfSome named (λ (n : NamedId). IfSome n.change KeepsUp) → Fits g c v (registered a msg_id named)
  registered-fits a msg_id None h = fits-sent a (frames.RegAck 0 msg_id 1) nothing fits-nothing
  registered-fits a msg_id (Some named) h = fits-sent a (frames.RegAck named.id msg_id 0) _ (fits-changed_if named.change nothing h fits-nothing)

  register_name-fits : (a : Addr) (s : Session) (msg_id : ℕ) (name : Option (List ℕ)) → Fits g c v (register_name a s msg_id name)
  register_name-fits a s msg_id None = fits-sent a (frames.RegAck 0 msg_id 3) nothing fits-nothing
  register_name-fits a s msg_id (Some name) = registered-fits a msg_id (id_for s name) (id_for-keeps s name)

  id_in_full-keeps : (s : Session) (name : Option (List ℕ)) → IfSome (id_in_full s name) (λ (named : NamedId). IfSome named.change KeepsUp)
  id_in_full-keeps s None = tt
  id_in_full-keeps s (Some name) = id_for-keeps s name

  id_asked-keeps : (s : Session) (kind : TopicIdType) (field filter : List ℕ) → IfSome (id_asked s kind field filter) (λ (named : NamedId). IfSome named.change KeepsUp)
  id_asked-keeps s kinds.Normal field filter = id_in_full-keeps s (name_asked filter)
  id_asked-keeps s kinds.Predefined field filter = tt
  id_asked-keeps s kinds.Short field filter = tt
  id_asked-keeps s kinds.Reserved field filter = tt

  differs-keeps : (b : Bool) (filter : List ℕ) (qos : ℕ) → IfSome (if b then None else Some (Subscribe filter qos)) KeepsUp
  differs-keeps true filter qos = tt
  differs-keeps false filter qos = tt

  subscribe_change-keeps : (filter : List ℕ) (qos : ℕ) (before : Option ℕ) → IfSome (subscribe_change filter qos before) KeepsUp
  subscribe_change-keeps filter qos None = tt
  subscribe_change-keeps filter qos (Some before) = differs-keeps (before == qos) filter qos

  refused-fits : (a : Addr) (bits msg_id code : ℕ) → Fits g c v (refused a bits msg_id code)
  refused-fits a bits msg_id code = fits-sent a (suback bits 0 msg_id code) nothing fits-nothing

  module _ (seen : Seen) (waiting : ℕ) (a : Addr) (s : Session) (bits msg_id : ℕ) where
    subscribed-fits : (filter : List ℕ) (qos : ℕ) (named : Option NamedId) → IfSome named (λ (n : NamedId). IfSome n.change KeepsUp) → Fits g c v (subscribed seen waiting a s bits msg_id filter qos named)
    subscribed-fits filter qos None h = refused-fits a bits msg_id 1
    subscribed-fits filter qos (Some named) h =
        fits-hand_all (handed_for seen filter qos waiting) _
        (fits-sent a (suback bits named.id msg_id 0) _
        (fits-changed_if (subscribe_change filter qos (filter_qos filter s.subscriptions)) _ (subscribe_change-keeps filter qos (filter_qos filter s.subscriptions))
        (fits-changed_if named.change nothing h fits-nothing)))

    asked_for-fits : (field : List ℕ) (asked : Asked) (qos : ℕ) → Fits g c v (subscribe_asked seen waiting a s bits msg_id field asked qos)
    asked_for-fits field (Refused code) qos = refused-fits a bits msg_id code
    asked_for-fits field (Topics filter) qos =
        choose-fits (filter_has_no_room filter s.subscriptions) _ _ (refused-fits a bits msg_id 1)
        (subscribed-fits filter qos (id_asked s (kind_of bits) field filter) (id_asked-keeps s (kind_of bits) field filter))

    subscribe_at-fits : (p : Entries) (field : List ℕ) (qos : Option ℕ) → Fits g c v (subscribe_at p seen waiting a s bits msg_id field qos)
    subscribe_at-fits p field None = refused-fits a bits msg_id 3
    subscribe_at-fits p field (Some qos) = asked_for-fits field (topics_asked p (kind_of bits) field) qos

  present-keeps : (b : Bool) (filter : List ℕ) → IfSome (if b then Some (Unsubscribe filter) else None) KeepsUp
  present-keeps true filter = tt
  present-keeps false filter = tt

  unsubscribe_asked-keeps : (s : Session) (asked : Asked) → IfSome (unsubscribe_asked s asked) KeepsUp
  unsubscribe_asked-keeps s (Refused code) = tt
  unsubscribe_asked-keeps s (Topics filter) = present-keeps (is_some (filter_qos filter s.subscriptions)) filter

  unsubscribe-fits : (p : Entries) (a : Addr) (s : Session) (bits msg_id : ℕ) (field : List ℕ) → Fits g c v (unsubscribe_draft p a s bits msg_id field)
  unsubscribe-fits p a s bits msg_id field =
      let asked : Asked = topics_asked p (kind_of bits) field in
      fits-sent a (frames.UnsubAck msg_id) _ (fits-changed_if (unsubscribe_asked s asked) nothing (unsubscribe_asked-keeps s asked) fits-nothing)

module _ (g : ℕ) (S : List Op) where
  pub topic_update_of-fits : (a : Addr) (bound : Option (List ℕ)) (will : Option Will) (now : ℕ) → FitsRow g S (topic_update_of a bound will now)
  topic_update_of-fits a None will now = tt
  topic_update_of-fits a (Some c) will now = fits-moved (Heard c now) _ tt (topic_update-fits g c (view c S) a will)

  pub message_update_of-fits : (a : Addr) (bound : Option (List ℕ)) (message : List ℕ) (now : ℕ) → FitsRow g S (message_update_of (seen_of S) a bound message now)
  message_update_of-fits a None message now = tt
  message_update_of-fits a (Some c) message now = fits-moved (Heard c now) _ tt (message_update-fits g c (view c S) a (session_of (seen_of S) c) message)

  pub register_of-fits : (a : Addr) (bound : Option (List ℕ)) (msg_id : ℕ) (name : List ℕ) (now : ℕ) → FitsRow g S (register_of (seen_of S) a bound msg_id name now)
  register_of-fits a None msg_id name now = tt
  register_of-fits a (Some c) msg_id name now =
      fits-moved (Heard c now) _ tt (register_name-fits g c (view c S) a (session_of (seen_of S) c) msg_id (name_asked name))

  pub subscribe_of-fits : (p : Entries) (a : Addr) (bound : Option (List ℕ)) (bits msg_id : ℕ) (field : List ℕ) (now : ℕ) → FitsRow g S (subscribe_of p (seen_of S) a bound bits msg_id field now)
  subscribe_of-fits p a None bits msg_id field now = tt
  subscribe_of-fits p a (Some c) bits msg_id field now =
      fits-moved (Heard c now) _ tt (subscribe_at-fits g c (view c S) (seen_of S) (waiting_for (seen_of S) c) a (session_of (seen_of S) c) bits msg_id p field (qos_asked (qos_of bits)))

  pub unsubscribe_of-fits : (p : Entries) (a : Addr) (bound : Option (List ℕ)) (bits msg_id : ℕ) (field : List ℕ) (now : ℕ) → FitsRow g S (unsubscribe_of p (seen_of S) a bound bits msg_id field now)
  unsubscribe_of-fits p a None bits msg_id field now = tt
  unsubscribe_of-fits p a (Some c) bits msg_id field now =
      fits-moved (Heard c now) _ tt (unsubscribe-fits g c (view c S) p a (session_of (seen_of S) c) bits msg_id field)

-- ---- publications

module _ (g : ℕ) (c : List ℕ) (v : ClientView) (seen : Seen) where
  posted-fits : (asked : Bool) (name : List ℕ) (qos : ℕ) (body : List ℕ) → Fits g c v (posted seen asked name qos body)
  posted-fits asked name qos body = fits-retain_if (retained_of seen asked name qos body) _ (fits-put_all (puts_for seen name qos body) nothing fits-nothing)

  publish_at-fits : (asked : Bool) (a : Addr) (s : Session) (topic msg_id : ℕ) (body name : List ℕ) (qos : Qos) → Fits g c v (publish_at seen asked a s topic msg_id body name qos)
  publish_at-fits asked a s topic msg_id body name levels.Zero = posted-fits asked name 0 body
  publish_at-fits asked a s topic msg_id body name levels.One = fits-sent a (frames.PubAck topic msg_id 0) _ (posted-fits asked name 1 body)
  publish_at-fits asked a s topic msg_id body name levels.Two =
      choose-fits (is_received msg_id s.received) _ _ (fits-sent a (frames.PubRec msg_id) nothing fits-nothing)
      (choose-fits (id_has_no_room msg_id s.received) _ _ (fits-sent a (frames.PubAck topic msg_id 1) nothing fits-nothing)
      (fits-sent a (frames.PubRec msg_id) _ (fits-changed (Received msg_id) _ tt (posted-fits asked name 2 body))))
  publish_at-fits asked a s topic msg_id body name levels.MinusOne = posted-fits asked name 0 body

  publish_meant-fits : (asked : Bool) (a : Addr) (s : Session) (topic msg_id : ℕ) (body : List ℕ) (qos : Qos) (meant : Meant) → Fits g c v (publish_meant seen asked a s topic msg_id body qos meant)
  publish_meant-fits asked a s topic msg_id body qos (meanings.Refused code) = fits-sent a (frames.PubAck topic msg_id code) nothing fits-nothing
  publish_meant-fits asked a s topic msg_id body qos (meanings.Topic name) = publish_at-fits asked a s topic msg_id body name qos

spread_meant-binds_none : (seen : Seen) (asked : Bool) (body : List ℕ) (meant : Meant) → AllByRecursion IsNoBind (spread_meant seen asked body meant).local
spread_meant-binds_none seen asked body (meanings.Refused code) = tt
spread_meant-binds_none seen asked body (meanings.Topic name) = tt

release-keeps : (b : Bool) (msg_id : ℕ) → IfSome (if b then Some (Release msg_id) else None) KeepsUp
release-keeps true msg_id = tt
release-keeps false msg_id = tt

module _ (g : ℕ) (S : List Op) where
  publish_of-fits : (p : Entries) (a : Addr) (bound : Option (List ℕ)) (bits topic msg_id : ℕ) (body : List ℕ) (now : ℕ) → FitsRow g S (publish_of p (seen_of S) a bound bits topic msg_id body now)
  publish_of-fits p a None bits topic msg_id body now = tt
  publish_of-fits p a (Some c) bits topic msg_id body now =
      fits-moved (Heard c now) _ tt
      (publish_meant-fits g c (view c S) (seen_of S) (retain_asked bits) a (session_of (seen_of S) c) topic msg_id body (qos_of bits) (publication_meant p (session_of (seen_of S) c) bits topic body))

  pub publish_in-fits : (p : Entries) (local : Local) (a : Addr) (bits topic msg_id : ℕ) (body : List ℕ) (now : ℕ) (qos : Qos) → FitsRow g S (publish_in_at p (seen_of S) local a bits topic msg_id body now qos)
  publish_in-fits p local a bits topic msg_id body now levels.MinusOne = spread_meant-binds_none (seen_of S) (retain_asked bits) body (publication_meant p empty_session bits topic body)
  publish_in-fits p local a bits topic msg_id body now levels.Zero = publish_of-fits p a (client_at a local.bindings) bits topic msg_id body now
  publish_in-fits p local a bits topic msg_id body now levels.One = publish_of-fits p a (client_at a local.bindings) bits topic msg_id body now
  publish_in-fits p local a bits topic msg_id body now levels.Two = publish_of-fits p a (client_at a local.bindings) bits topic msg_id body now

  pub pubrel_of-fits : (a : Addr) (bound : Option (List ℕ)) (msg_id now : ℕ) → FitsRow g S (pubrel_of (seen_of S) a bound msg_id now)
  pubrel_of-fits a None msg_id now = tt
  pubrel_of-fits a (Some c) msg_id now =
      fits-moved (Heard c now) _ tt
      (fits-sent a (frames.PubComp msg_id) _ (fits-changed_if (release (session_of (seen_of S) c) msg_id) nothing (release-keeps (is_received msg_id (session_of (seen_of S) c).received) msg_id) fits-nothing))

-- ---- acknowledgements

module _ (g : ℕ) (c : List ℕ) (v : ClientView) (s : Session) (pending : List Put) where
  over-fits : (d : Drafted) → Fits g c v d → Fits g c v (over s d)
  over-fits d h = fits-changed (Outbound None s.next_id) d tt h

  done-fits : (put : Put) → Fits g c v (done s put)
  done-fits put = over-fits _ (fits-acked (name_of put) nothing fits-nothing)

  told-fits : (entry : TopicEntry) (known : Bool) → Fits g c v (over s (id_told entry known nothing))
  told-fits entry known = over-fits _ (fits-changed (Register entry.id entry.name known) nothing tt fits-nothing)

  forgotten-fits : (put : Put) (entry : Option TopicEntry) → Fits g c v (forgotten s put entry)
  forgotten-fits put None = done-fits put
  forgotten-fits put (Some entry) = told-fits entry false

  puback-fits : (p : Entries) (code : ℕ) (put : Option Put) → Fits g c v (puback_of p s code put)
  puback-fits p code None = fits-nothing
  puback-fits p code (Some put) =
      choose-fits (code == 0) _ _ (choose-fits (put.qos == 1) _ _ (done-fits put) fits-nothing)
      (choose-fits (code == 1) _ _ fits-nothing
      (choose-fits (code == 2) _ _ (forgotten-fits put (entry_published p s put.topic)) (done-fits put)))

  pubrel-fits : (peer : Peer) (msg_id : ℕ) (d : Drafted) → Fits g c v d → Fits g c v (pubrel_sent peer msg_id d)
  pubrel-fits peer msg_id d h = fits-moved (Resent peer.client peer.moment) _ tt (fits-sent peer.address (frames.PubRel msg_id) d h)

  pubrec_again-fits : (peer : Peer) (msg_id : ℕ) (x : Option Exchange) → Fits g c v (pubrec_again peer msg_id x)
  pubrec_again-fits peer msg_id None = fits-sent peer.address (frames.PubRel msg_id) nothing fits-nothing
  pubrec_again-fits peer msg_id (Some x) = pubrel-fits peer msg_id nothing fits-nothing

  released-fits : (x : Exchange) → Fits g c v (released s x)
  released-fits x = fits-changed (Outbound (Some (record x { phase = Released })) s.next_id) _ tt (fits-acked (message_of x) nothing fits-nothing)

  pubrec-fits : (peer : Peer) (msg_id : ℕ) (x : Option Exchange) → Fits g c v (pubrec_of peer s pending msg_id x)
  pubrec-fits peer msg_id None = pubrec_again-fits peer msg_id (awaiting s pending Released msg_id)
  pubrec-fits peer msg_id (Some x) = pubrel-fits peer msg_id (released s x) (released-fits x)

  pubcomp-fits : (x : Option Exchange) → Fits g c v (pubcomp_of s x)
  pubcomp-fits None = fits-nothing
  pubcomp-fits (Some x) = over-fits nothing fits-nothing

  registered_by-fits : (entry : Option TopicEntry) → Fits g c v (id_known s entry)
  registered_by-fits None = fits-nothing
  registered_by-fits (Some entry) = told-fits entry true

  regack-fits : (code : ℕ) (put : Option Put) → Fits g c v (regack_of s code put)
  regack-fits code None = fits-nothing
  regack-fits code (Some put) =
      choose-fits (code == 0) _ _ (registered_by-fits (topic_named put.topic s.topics)) (choose-fits (code == 1) _ _ fits-nothing (done-fits put))

  acknowledge-fits : (p : Entries) (peer : Peer) (frame : Frame) → Fits g c v (acknowledge p peer s pending frame)
  acknowledge-fits p peer (frames.PubAck topic_id msg_id code) = puback-fits p code (put_awaiting s pending Published msg_id)
  acknowledge-fits p peer (frames.PubRec msg_id) = pubrec-fits peer msg_id (awaiting_pubrec s pending msg_id)
  acknowledge-fits p peer (frames.PubComp msg_id) = pubcomp-fits (awaiting s pending Released msg_id)
  acknowledge-fits p peer (frames.RegAck topic_id msg_id code) = regack-fits code (put_awaiting s pending Registering msg_id)
  acknowledge-fits p peer frame = fits-nothing

-- ---- waking

-- a client that is up is bound: it was the gateway's, or is taken over as it is
claimed-fits : (g : ℕ) (c : List ℕ) (v : ClientView) (a : Addr) (now : ℕ) (s : Session) → v.session ≡ Some s → is_up s.presence ≡ true → Fits g c v (bound_to a c now (claimed g v s))
claimed-fits g c v a now s e up =
    elim (is_stamp_of g v.stamp) as (λ b. is_stamp_of g v.stamp ≡ b → Fits g c v (bound_to a c now (if b then nothing else changed (Take s) nothing))) [
      | true ↦ λ own. record { is = inr (inl (tt, (refl, (tt, tt)), inl (own, ap can_wake e ∙ up))) }
      | false ↦ λ _. record { is = inr (inl ((up, tt), (refl, (tt, tt)), inr tt)) }
    ] refl

module _ (g : ℕ) (S : List Op) where
  woken_by-fits : (a : Addr) (c : List ℕ) (s : Session) (idle : Bool) (d : Drafted) (state : State) → (is_up state ≡ true → Fits g c (view c S) d) → FitsRow g S (woken_by a c s idle d state)
  woken_by-fits a c s idle d Active h = fits-sent a frames.PingResp d (h refl)
  woken_by-fits a c s idle d Asleep h = choose-row g S idle _ _ (fits-sent a frames.PingResp d (h refl)) (fits-changed (Presence Awake s.duration) d refl (h refl))
  woken_by-fits a c s idle d Awake h = choose-row g S idle _ _ (fits-sent a frames.PingResp _ (fits-changed (Presence Asleep s.duration) d refl (h refl))) (h refl)
  woken_by-fits a c s idle d Disconnected h = tt
  woken_by-fits a c s idle d Lost h = tt

  woken_if-fits : (a : Addr) (c : List ℕ) (now : ℕ) (session : Option Session) → (view c S).session ≡ session → FitsRow g S (woken_if g a c (view c S) now session)
  woken_if-fits a c now None e = tt
  woken_if-fits a c now (Some s) e =
      woken_by-fits a c s (has_nothing s (view c S).pending) (bound_to a c now (claimed g (view c S) s)) s.presence (λ up. claimed-fits g c (view c S) a now s e up)

  pub ack_of-fits : (p : Entries) (a : Addr) (bound : Option (List ℕ)) (frame : Frame) (now : ℕ) → FitsRow g S (ack_row p (seen_of S) a bound frame now)
  ack_of-fits p a None frame now = tt
  ack_of-fits p a (Some c) frame now =
      fits-moved (Heard c now) _ tt (acknowledge-fits g c (view c S) (session_of (seen_of S) c) (view c S).pending p (peer_at a c now) frame)

  wake_of-fits : (a : Addr) (bound : Option (List ℕ)) (now : ℕ) → FitsRow g S (wake_of g (seen_of S) a bound now)
  wake_of-fits a None now = tt
  wake_of-fits a (Some c) now = heard-fits g S (Some c) now (woken g (seen_of S) a c now) (woken_if-fits a c now (view c S).session refl)

  pub wake-fits : (local : Local) (a : Addr) (c : List ℕ) (now : ℕ) → FitsRow g S (wake g (seen_of S) local a c now)
  wake-fits local a c now =
      choose-row g S (length c == 0) _ _ (wake_of-fits a (client_at a local.bindings) now)
      (heard-fits g S (client_at a local.bindings) now (woken g (seen_of S) a c now) (woken_if-fits a c now (view c S).session refl))

-- ---- every row

module _ (g : ℕ) (S : List Op) where
  other-fits : (local : Local) (a : Addr) (frame : Frame) (now : ℕ) → FitsRow g S (other g local a frame now)
  other-fits local a (frames.SearchGw radius) now = tt
  other-fits local a (frames.Advertise gateway duration) now = tt
  other-fits local a (frames.GwInfo gateway address) now = tt
  other-fits local a (frames.ConnAck code) now = tt
  other-fits local a frames.WillTopicReq now = tt
  other-fits local a frames.WillMsgReq now = tt
  other-fits local a (frames.SubAck flags topic_id msg_id code) now = tt
  other-fits local a (frames.UnsubAck msg_id) now = tt
  other-fits local a (frames.WillTopicResp code) now = tt
  other-fits local a (frames.WillMsgResp code) now = tt
  other-fits local a frame now = stray-fits g S a (client_at a local.bindings) now

  pub row-fits : (predefined : Entries) (local : Local) (a : Addr) (frame : Frame) (now : ℕ) → FitsRow g S (row_for g predefined (seen_of S) local a frame now)
  row-fits predefined local a (frames.Connect flags protocol duration client) now = connect-fits g S local a flags.bits protocol duration client now
  row-fits predefined local a (frames.WillTopic will) now = will_topic-fits g S a (client_at a local.bindings) (dialog_at a local.dialogs) will now
  row-fits predefined local a (frames.WillMsg message) now = will_msg-fits g S a (client_at a local.bindings) (dialog_at a local.dialogs) message now
  row-fits predefined local a (frames.Disconnect duration) now = disconnect-fits g S a (client_at a local.bindings) duration now
  row-fits predefined local a (frames.Register topic_id msg_id name) now = register_of-fits g S a (client_at a local.bindings) msg_id name now
  row-fits predefined local a (frames.Subscribe flags msg_id topic) now = subscribe_of-fits g S predefined a (client_at a local.bindings) flags.bits msg_id topic now
  row-fits predefined local a (frames.Unsubscribe flags msg_id topic) now = unsubscribe_of-fits g S predefined a (client_at a local.bindings) flags.bits msg_id topic now
  row-fits predefined local a (frames.WillTopicUpd will) now = topic_update_of-fits g S a (client_at a local.bindings) will now
  row-fits predefined local a (frames.WillMsgUpd message) now = message_update_of-fits g S a (client_at a local.bindings) message now
  row-fits predefined local a (frames.Publish flags topic msg_id body) now = publish_in-fits g S predefined local a flags.bits topic msg_id body now (qos_of flags.bits)
  row-fits predefined local a (frames.PubRel msg_id) now = pubrel_of-fits g S a (client_at a local.bindings) msg_id now
  row-fits predefined local a (frames.PubAck topic_id msg_id code) now = ack_of-fits g S predefined a (client_at a local.bindings) (frames.PubAck topic_id msg_id code) now
  row-fits predefined local a (frames.PubRec msg_id) now = ack_of-fits g S predefined a (client_at a local.bindings) (frames.PubRec msg_id) now
  row-fits predefined local a (frames.PubComp msg_id) now = ack_of-fits g S predefined a (client_at a local.bindings) (frames.PubComp msg_id) now
  row-fits predefined local a (frames.RegAck topic_id msg_id code) now = ack_of-fits g S predefined a (client_at a local.bindings) (frames.RegAck topic_id msg_id code) now
  row-fits predefined local a (frames.PingReq client) now = wake-fits g S local a client now
  row-fits predefined local a frame now = other-fits local a frame now
