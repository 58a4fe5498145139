-- The rows of publications, of acknowledgements and of waking have sound drafts.
use Rattle.std.proofs.Common.{◌≡◌, ℕ, ◌+◌, ◌≤◌, ◌==◌, Bool, true, false, ◌&&◌, ◌||◌, nat_le, nat_lt, is_none, is_some, cond, if◌then◌else◌, List, [], ◌∷◌, ◌++◌, map, filter, filter_map, fold, length, Option, Some, None, IfSome, option_map, option_and_then, unwrap_or, refl, sym, ap, ◌∙◌, subst, true≢false, arith, le-leb, leb-true, ltb-false, bytes_eq, IsTrue}
use Rattle.std.specs.Prelude.{min, find}
use Rattle.std.specs.List.{AllByRecursion, cons_option}
use Rattle.std.proofs.lemmas.Bool.{and_parts, and_from, or_parts}
use Rattle.sn_topic.specs.Table.{Entries}
use Rattle.sn_session.specs.declared.presence.Presence.{Presence as State}
use Rattle.sn_session.specs.declared.presence.Presence.TheVariants.{Active, Asleep, Awake, Disconnected, Lost}
use Rattle.sn_session.specs.declared.outbound.Outbound.{Outbound as Exchange}
use Rattle.sn_session.specs.declared.outbound.Phase.{Phase}
use Rattle.sn_session.specs.declared.outbound.Phase.TheVariants.{Registering, Published, Released}
use Rattle.sn_session.specs.declared.session.Session.{Session}
use Rattle.sn_tables.specs.declared.topics.TopicEntry.{TopicEntry}
use Rattle.sn_session.specs.declared.will.Will.{Will as SessionWill}
use Rattle.sn_session.specs.declared.will.WillTopic.{WillTopic}
use Rattle.sn_session.specs.declared.change.SessionOp.{SessionOp}
use Rattle.sn_session.specs.declared.change.SessionOp.TheVariants.{Take, Presence, Register, Subscribe, Unsubscribe, WillTopic as SetTopic, WillMsg, Received, Released as Release, Outbound}
use Rattle.sn_tables.specs.Received.{is_received, id_has_no_room}
use Rattle.sn_session.specs.Session.{empty_session}
use Rattle.sn_tables.specs.Topics.{topic_named, free_id}
use Rattle.sn_tables.specs.Subscriptions.{filter_qos, subscribed_qos, filter_has_no_room}
use Rattle.sn_frame.specs.declared.flags.Qos.{Qos}
use Rattle.sn_frame.specs.declared.flags.Qos.TheVariants as levels
use Rattle.sn_frame.specs.declared.flags.TopicIdType.{TopicIdType}
use Rattle.sn_frame.specs.declared.flags.TopicIdType.TheVariants as kinds
use Rattle.sn_frame.specs.declared.frame.Frame.{Frame}
use Rattle.sn_frame.specs.declared.frame.Frame.TheVariants as frames
use Rattle.sn_frame.specs.declared.frame.Will.{Will}
use Rattle.sn_frame.specs.FlagBits.{qos_of, kind_of}
use Rattle.rep_op.specs.declared.op.Put.{Put}
use Rattle.rep_op.specs.declared.op.Op.{Op}
use Rattle.rep_op.specs.Orders.{name_of}
use Rattle.rep_ops.specs.Making.{AreWellMade}
use Rattle.sn_tables.specs.Levels.{is_qos}
use Rattle.sn_topic.specs.Table.{is_topic_id}
use Rattle.rep_op.specs.Ranges.{is_topic, is_message, is_will, is_will_topic, is_exchange, is_session}
use Rattle.rep_model.specs.declared.view.ClientView.{ClientView}
use Rattle.rep_model.specs.Views.{view, clients}
use Rattle.sn_local.specs.declared.config.Addr.{Addr}
use Rattle.sn_flow.specs.declared.accept.GivenWill.{GivenWill}
use Rattle.sn_flow.specs.declared.accept.GivenWill.TheVariants.{AsItIs, Deleted, Replaced}
use Rattle.sn_plan.specs.declared.asking.Asked.{Asked}
use Rattle.sn_plan.specs.declared.asking.Asked.TheVariants.{Topics, Refused}
use Rattle.sn_plan.specs.declared.draft.NewPut.{NewPut}
use Rattle.sn_plan.specs.declared.draft.Posted.{Posted}
use Rattle.sn_local.specs.declared.local.Awaited.{Awaited}
use Rattle.sn_local.specs.declared.local.Awaited.TheVariants.{Topic, Message}
use Rattle.sn_local.specs.declared.local.LocalChange.TheVariants.{Bind, Unbind, Time, Heard, Resent, Ask, EndDialog}
use Rattle.sn_local.specs.declared.local.Request.{Request}
use Rattle.sn_local.specs.declared.local.WillDialog.{WillDialog}
use Rattle.sn_subscribe.specs.declared.registration.NamedId.{NamedId}
use Rattle.sn_plan.specs.declared.row.Row.{Row}
use Rattle.sn_flow.specs.Accept.{will_after, with_ids_unknown, going_on, as_asked, accepted, cleared, accept, has_no_room}
use Rattle.sn_plan.specs.Asking.{qos_asked, retain_asked, topics_asked, id_in}
use Rattle.sn_local.specs.Bindings.{client_at, same_address, is_stamp_of}
use Rattle.sn_plan.specs.Bound.{bound_to, heard_of, session_of}
use Rattle.sn_flow.specs.Connection.{has_bit, request_of, refusal_of, ask_topic, connect_row, connect, leave, fall_asleep, disconnect_draft, disconnect_of, disconnect}
use Rattle.sn_plan.specs.Drafts.{Drafted, nothing, changed, changed_if, acked, acked_all, put_all, sent, moved}
use Rattle.sn_local.specs.Locals.{Local}
use Rattle.sn_plan.specs.Others.{is_up}
use Rattle.sn_local.specs.Seen.{Seen, seen_of}
use Rattle.sn_subscribe.specs.Registration.{entry_id, new_id, entry_or_free, id_for, registered, register_name, register as register_draft}
use Rattle.sn_plan.specs.Rows.{row_of, row_of_none, row_with_timer, turned_away, unexpected_row}
use Rattle.sn_subscribe.specs.Subscription.{suback, refused, fixed_id, id_in_full, id_asked, subscribe_change, subscribed, subscribe_to, subscribe_asked, subscribe_at, subscribe as subscribe_draft, unsubscribe_change, unsubscribe_asked, unsubscribe as unsubscribe_draft}
use Rattle.sn_subscribe.specs.TopicRows.{register_of, register, subscribe_of, subscribe, unsubscribe_of, unsubscribe}
use Rattle.sn_local.specs.Timers.{started}
use Rattle.sn_local.specs.WillDialogs.{dialog_at}
use Rattle.sn_flow.specs.Wills.{congestion, not_supported, dismissed, concluded, ask_message, topic_given, topic_row, will_topic_in, will_topic_from, will_topic, will_of, message_row, message_in, will_message_from, will_msg, topic_update_of, will_topic_update, message_update_of, will_msg_update}
use Rattle.sn_flow.specs.WillUpdate.{topic_from, topic_asked, topic_accepted, topic_set, will_topic_update as topic_update, has_no_place, will_msg_update as message_update}
use Rattle.sn_publish.specs.declared.meaning.Meant.{Meant}
use Rattle.sn_publish.specs.declared.meaning.Meant.TheVariants as meanings
use Rattle.sn_exchange.specs.declared.peer.Peer.{Peer}
use Rattle.sn_exchange.specs.declared.form.Form.{Form}
use Rattle.sn_deliver.specs.Acknowledging.{same_phase, if_awaits, awaiting, put_of_exchange, put_awaiting, over, done, id_told, entry_by_kind, entry_if_normal, entry_published, forgotten, puback_put, puback_of, pubrel_sent, released, awaiting_pubrec, is_at_two, pubrec_again, pubrec_of, pubcomp_of, id_known, regack_put, regack_of, acknowledge}
use Rattle.sn_exchange.specs.Exchanges.{same_name, put_named, put_left, message_of, is_open_in, if_open, open_exchange}
use Rattle.sn_exchange.specs.Following.{peer_at}
use Rattle.sn_exchange.specs.Forms.{form_again}
use Rattle.step_laws.specs.Laws.{AreNamedApart}
use Rattle.sn_publish.specs.Publishing.{topic_meant, within_limit, publication_meant, posted, publish_at_0, publish_at_1, publish_at_2, publish_at, publish_meant, publish, spread_meant, publish_unconnected, release, pubrel}
use Rattle.sn_publish.specs.Recipients.{admitted, effective_qos, qos_in, qos_for, message_for, put_for, puts_among, puts_for, is_another, puts_of_will}
use Rattle.sn_publish.specs.Retaining.{has_place, retained_of}
use Rattle.sn_deliver.specs.Serving.{publish_of, publish_in_at, publish_in, pubrel_of, ack_row, ack_in}
use Rattle.sn_deliver.specs.Waking.{claimed, has_nothing, from_sleep, from_wake, woken_by, woken_if, woken, wake_of, wake}
use Rattle.plan_laws.specs.KeepsWell.{is_asked, AreAsked}
use Rattle.plan_laws.proofs.Sessions.{Fine, IsChange, fine-to, all-found, unknown-fine, empty-fine}
use Rattle.plan_laws.proofs.Kept.{IsWell, view-fine, seen-fine, pending-well, pending-apart}
use Rattle.plan_laws.proofs.Sound.{IsNamed, AreOnce, IsMessage, IsPosted, Sound, least-two, well-named, all-named, all-once, choose-sound, sound-nothing, sound-changed, sound-changed_if, sound-acked, sound-retain_if, sound-put_all, sound-sent, sound-moved}
use Rattle.plan_laws.proofs.Following.{free-fine}
use Rattle.plan_laws.proofs.Rows.{IsSoundRow, sent-nothing, heard-sound, stray-sound, choose-row, not-above, bound-sound}

-- ---- who gets a publication

admitted-fine : (b : Bool) (qos : ℕ) → nat_le qos 2 ≡ true → IfSome (if b then Some qos else None) (λ q. nat_le q 2 ≡ true)
admitted-fine true qos h = h
admitted-fine false qos h = tt

in-fine : (pending : List Put) (qos : ℕ) (s : Session) (asked : Option ℕ) → nat_le qos 2 ≡ true → IfSome (option_and_then (effective_qos pending qos s) asked) (λ q. nat_le q 2 ≡ true)
in-fine pending qos s None h = tt
in-fine pending qos s (Some asked) h = admitted-fine (nat_lt (length pending) 1024 && (is_up s.presence || nat_lt 0 (min qos asked))) (min qos asked) (least-two qos asked h)

for-fine : (topic : List ℕ) (qos : ℕ) (pending : List Put) (session : Option Session) → nat_le qos 2 ≡ true → IfSome (option_and_then (qos_in pending topic qos) session) (λ q. nat_le q 2 ≡ true)
for-fine topic qos pending None h = tt
for-fine topic qos pending (Some s) h = in-fine pending qos s (subscribed_qos topic s.subscriptions) h

module _ (seen : Seen) (topic : List ℕ) (qos : ℕ) (body : List ℕ) (q : nat_le qos 2 ≡ true) (short : nat_le (length body) 4096 ≡ true) where
  one-more : (c : List ℕ) (found : Option ℕ) (rest : List NewPut) → IfSome found (λ q. nat_le q 2 ≡ true) → AllByRecursion IsMessage rest → AllByRecursion IsMessage (cons_option (option_map (message_for topic body c) found) rest)
  one-more c None rest h all = all
  one-more c (Some at) rest h all = ((h, short), all)

  pub among-fine : (cs : List (List ℕ)) → AllByRecursion IsMessage (puts_among seen cs topic qos body)
  among-fine [] = tt
  among-fine (c ∷ rest) = one-more c (qos_for topic qos (seen.of c)) (puts_among seen rest topic qos body) (for-fine topic qos (seen.of c).pending (seen.of c).session q) (among-fine rest)

-- ---- publications

pub kept-fine : (b : Bool) (topic : List ℕ) (qos : ℕ) (body : List ℕ) → nat_le qos 2 ≡ true → nat_le (length body) 4096 ≡ true
    → IfSome {T = Posted} (if b then Some (record { topic = topic; qos = qos; body = body }) else None) IsPosted
kept-fine true topic qos body q short = (q, short)
kept-fine false topic qos body q short = tt

abbrev IsMeant : List ℕ → Meant → Type 0
IsMeant body (meanings.Refused code) = Unit {0}
IsMeant body (meanings.Topic name) = nat_le (length body) 4096 ≡ true

limit-fine : (body : List ℕ) (meant : Meant) → IsMeant body (within_limit body meant)
limit-fine body (meanings.Refused code) = tt
limit-fine body (meanings.Topic name) =
    elim (nat_lt 4096 (length body)) as (λ b. nat_lt 4096 (length body) ≡ b → IsMeant body (if b then meanings.Refused 3 else meanings.Topic name)) [
      | true ↦ λ _. tt
      | false ↦ λ e. not-above 4096 (length body) e
    ] refl

module _ (seen : Seen) where
  posted-sound : (asked : Bool) (name : List ℕ) (qos : ℕ) (body : List ℕ) → nat_le qos 2 ≡ true → nat_le (length body) 4096 ≡ true → Sound (posted seen asked name qos body)
  posted-sound asked name qos body q short =
      sound-retain_if (retained_of seen asked name qos body) _ (kept-fine (asked && has_place seen name) name qos body q short)
      (sound-put_all (puts_for seen name qos body) nothing (among-fine seen name qos body q short seen.all) sound-nothing)

  publish_at-sound : (asked : Bool) (a : Addr) (s : Session) (topic msg_id : ℕ) (body name : List ℕ) (qos : Qos) → nat_le (length body) 4096 ≡ true → Sound (publish_at seen asked a s topic msg_id body name qos)
  publish_at-sound asked a s topic msg_id body name levels.Zero short = posted-sound asked name 0 body refl short
  publish_at-sound asked a s topic msg_id body name levels.One short = sound-sent a (frames.PubAck topic msg_id 0) _ (posted-sound asked name 1 body refl short)
  publish_at-sound asked a s topic msg_id body name levels.Two short =
      choose-sound (is_received msg_id s.received) _ _ (sent-nothing a (frames.PubRec msg_id))
      (choose-sound (id_has_no_room msg_id s.received) _ _ (sent-nothing a (frames.PubAck topic msg_id 1))
      (sound-sent a (frames.PubRec msg_id) _ (sound-changed (Received msg_id) _ refl (posted-sound asked name 2 body refl short))))
  publish_at-sound asked a s topic msg_id body name levels.MinusOne short = posted-sound asked name 0 body refl short

  publish_meant-sound : (asked : Bool) (a : Addr) (s : Session) (topic msg_id : ℕ) (body : List ℕ) (qos : Qos) (meant : Meant) → IsMeant body meant → Sound (publish_meant seen asked a s topic msg_id body qos meant)
  publish_meant-sound asked a s topic msg_id body qos (meanings.Refused code) h = sent-nothing a (frames.PubAck topic msg_id code)
  publish_meant-sound asked a s topic msg_id body qos (meanings.Topic name) h = publish_at-sound asked a s topic msg_id body name qos h

  spread_meant-sound : (asked : Bool) (body : List ℕ) (meant : Meant) → IsMeant body meant → Sound (spread_meant seen asked body meant)
  spread_meant-sound asked body (meanings.Refused code) h = sound-nothing
  spread_meant-sound asked body (meanings.Topic name) h = posted-sound asked name 0 body refl h

  publish_of-sound : (p : Entries) (a : Addr) (bound : Option (List ℕ)) (bits topic msg_id : ℕ) (body : List ℕ) (now : ℕ) → IsSoundRow (publish_of p seen a bound bits topic msg_id body now)
  publish_of-sound p a None bits topic msg_id body now = sent-nothing a (frames.Disconnect None)
  publish_of-sound p a (Some c) bits topic msg_id body now =
      sound-moved (Heard c now) _ tt
      (publish_meant-sound (retain_asked bits) a (session_of seen c) topic msg_id body (qos_of bits) (publication_meant p (session_of seen c) bits topic body)
      (limit-fine body (topic_meant p (session_of seen c) (kind_of bits) topic)))

  pub publish_in-sound : (p : Entries) (local : Local) (a : Addr) (bits topic msg_id : ℕ) (body : List ℕ) (now : ℕ) (qos : Qos) → IsSoundRow (publish_in_at p seen local a bits topic msg_id body now qos)
  publish_in-sound p local a bits topic msg_id body now levels.MinusOne =
      spread_meant-sound (retain_asked bits) body (publication_meant p empty_session bits topic body) (limit-fine body (topic_meant p empty_session (kind_of bits) topic))
  publish_in-sound p local a bits topic msg_id body now levels.Zero = publish_of-sound p a (client_at a local.bindings) bits topic msg_id body now
  publish_in-sound p local a bits topic msg_id body now levels.One = publish_of-sound p a (client_at a local.bindings) bits topic msg_id body now
  publish_in-sound p local a bits topic msg_id body now levels.Two = publish_of-sound p a (client_at a local.bindings) bits topic msg_id body now

  release-fine : (b : Bool) (msg_id : ℕ) → IfSome (if b then Some (Release msg_id) else None) IsChange
  release-fine true msg_id = refl
  release-fine false msg_id = tt

  pub pubrel_of-sound : (a : Addr) (bound : Option (List ℕ)) (msg_id now : ℕ) → IsSoundRow (pubrel_of seen a bound msg_id now)
  pubrel_of-sound a None msg_id now = sent-nothing a (frames.Disconnect None)
  pubrel_of-sound a (Some c) msg_id now =
      sound-moved (Heard c now) _ tt (sound-sent a (frames.PubComp msg_id) _ (sound-changed_if (release (session_of seen c) msg_id) nothing (release-fine (is_received msg_id (session_of seen c).received) msg_id) sound-nothing))

-- ---- acknowledgements

found-well : (test : Put → Bool) (pending : List Put) → AllByRecursion IsWell pending → IfSome (find test pending) IsWell
found-well test [] all = tt
found-well test (p ∷ rest) all =
    elim (test p) as (λ b. IfSome (cond b (Some p) (find test rest)) IsWell) [
      | true ↦ all.0
      | false ↦ found-well test rest all.1
    ]

choose-some : {X : Type 0} (P : X → Type 0) (b : Bool) (x : X) → P x → IfSome (if b then Some x else None) P
choose-some P true x h = h
choose-some P false x h = tt

abbrev IsExchange : Exchange → Type 0
IsExchange x = is_exchange (Some x) ≡ true

open-fine : (s : Session) (acks : List (ℕ × ℕ)) (pending : List Put) (x : Option Exchange) → is_exchange x ≡ true → IfSome (if_open s acks pending x) IsExchange
open-fine s acks pending None h = tt
open-fine s acks pending (Some x) h = choose-some IsExchange (is_open_in s x.phase (put_left acks pending (message_of x))) x h

awaits-fine : (phase : Phase) (msg_id : ℕ) (x : Option Exchange) → IfSome x IsExchange → IfSome (if_awaits phase msg_id x) IsExchange
awaits-fine phase msg_id None h = tt
awaits-fine phase msg_id (Some x) h = choose-some IsExchange (same_phase x.phase phase && (x.msg_id == msg_id)) x h

module _ (s : Session) (fine : Fine s) (pending : List Put) (well : AllByRecursion IsWell pending) where
  awaiting-fine : (phase : Phase) (msg_id : ℕ) → IfSome (awaiting s pending phase msg_id) IsExchange
  awaiting-fine phase msg_id = awaits-fine phase msg_id (open_exchange s [] pending) (open-fine s [] pending s.outbound fine.exchange)

  put_of-well : (x : Option Exchange) → IfSome (put_of_exchange pending x) IsWell
  put_of-well None = tt
  put_of-well (Some x) = found-well (λ put. same_name (name_of put) (message_of x)) pending well

  over-sound : (d : Drafted) → Sound d → Sound (over s d)
  over-sound d h = sound-changed (Outbound None s.next_id) d (and_from (nat_le 1 s.next_id) true fine.next refl) h

  done-sound : (put : Put) → IsWell put → Sound (done s put)
  done-sound put h = over-sound _ (sound-acked (name_of put) nothing (well-named put h) refl sound-nothing)

  told-sound : (entry : TopicEntry) (known : Bool) → is_topic entry ≡ true → Sound (over s (id_told entry known nothing))
  told-sound entry known h = over-sound _ (sound-changed (Register entry.id entry.name known) nothing h sound-nothing)

  forgotten-sound : (put : Put) (entry : Option TopicEntry) → IsWell put → IfSome entry (λ e. is_topic e ≡ true) → Sound (forgotten s put entry)
  forgotten-sound put None h k = done-sound put h
  forgotten-sound put (Some entry) h k = told-sound entry false k

  kind-fine : (entry : Option TopicEntry) (kind : TopicIdType) → IfSome entry (λ e. is_topic e ≡ true) → IfSome (entry_by_kind entry kind) (λ e. is_topic e ≡ true)
  kind-fine entry kinds.Normal h = h
  kind-fine entry kinds.Predefined h = tt
  kind-fine entry kinds.Short h = tt
  kind-fine entry kinds.Reserved h = tt

  normal-fine : (entry : Option TopicEntry) (form : Option Form) → IfSome entry (λ e. is_topic e ≡ true) → IfSome (entry_if_normal entry form) (λ e. is_topic e ≡ true)
  normal-fine entry None h = tt
  normal-fine entry (Some form) h = kind-fine entry form.kind h

  entry-named : (name : List ℕ) → IfSome (topic_named name s.topics) (λ e. is_topic e ≡ true)
  entry-named name = all-found is_topic (λ (e : TopicEntry). bytes_eq e.name name) s.topics fine.topics

  puback-sound : (p : Entries) (code : ℕ) (put : Option Put) → IfSome put IsWell → Sound (puback_of p s code put)
  puback-sound p code None h = sound-nothing
  puback-sound p code (Some put) h =
      choose-sound (code == 0) _ _ (choose-sound (put.qos == 1) _ _ (done-sound put h) sound-nothing)
      (choose-sound (code == 1) _ _ sound-nothing
      (choose-sound (code == 2) _ _ (forgotten-sound put (entry_published p s put.topic) h (normal-fine (topic_named put.topic s.topics) (form_again p s put.topic) (entry-named put.topic))) (done-sound put h)))

  pubrel-sound : (peer : Peer) (msg_id : ℕ) (d : Drafted) → Sound d → Sound (pubrel_sent peer msg_id d)
  pubrel-sound peer msg_id d h = sound-moved (Resent peer.client peer.moment) _ tt (sound-sent peer.address (frames.PubRel msg_id) d h)

  pubrec_again-sound : (peer : Peer) (msg_id : ℕ) (x : Option Exchange) → Sound (pubrec_again peer msg_id x)
  pubrec_again-sound peer msg_id None = sent-nothing peer.address (frames.PubRel msg_id)
  pubrec_again-sound peer msg_id (Some x) = pubrel-sound peer msg_id nothing sound-nothing

  released-sound : (x : Exchange) → IsExchange x → Sound (released s x)
  released-sound x h =
      let parts = and_parts (nat_le 1 x.origin) (nat_le 1 x.seq) h in
      sound-changed (Outbound (Some (record x { phase = Released })) s.next_id) _ (and_from (nat_le 1 s.next_id) (is_exchange (Some x)) fine.next h)
      (sound-acked (message_of x) nothing (parts.1, parts.0) refl sound-nothing)

  pubrec-sound : (peer : Peer) (msg_id : ℕ) (x : Option Exchange) → IfSome x IsExchange → Sound (pubrec_of peer s pending msg_id x)
  pubrec-sound peer msg_id None h = pubrec_again-sound peer msg_id (awaiting s pending Released msg_id)
  pubrec-sound peer msg_id (Some x) h = pubrel-sound peer msg_id (released s x) (released-sound x h)

  choose-exchange : (b : Bool) (x : Option Exchange) → IfSome x IsExchange → IfSome (if b then x else None) IsExchange
  choose-exchange true x h = h
  choose-exchange false x h = tt

  pubcomp-sound : (x : Option Exchange) → Sound (pubcomp_of s x)
  pubcomp-sound None = sound-nothing
  pubcomp-sound (Some x) = over-sound nothing sound-nothing

  registered-sound : (entry : Option TopicEntry) → IfSome entry (λ e. is_topic e ≡ true) → Sound (id_known s entry)
  registered-sound None h = sound-nothing
  registered-sound (Some entry) h = told-sound entry true h

  regack-sound : (code : ℕ) (put : Option Put) → IfSome put IsWell → Sound (regack_of s code put)
  regack-sound code None h = sound-nothing
  regack-sound code (Some put) h =
      choose-sound (code == 0) _ _ (registered-sound (topic_named put.topic s.topics) (entry-named put.topic))
      (choose-sound (code == 1) _ _ sound-nothing (done-sound put h))

  pub acknowledge-sound : (p : Entries) (peer : Peer) (frame : Frame) → Sound (acknowledge p peer s pending frame)
  acknowledge-sound p peer (frames.PubAck topic_id msg_id code) = puback-sound p code (put_awaiting s pending Published msg_id) (put_of-well (awaiting s pending Published msg_id))
  acknowledge-sound p peer (frames.PubRec msg_id) =
      pubrec-sound peer msg_id (awaiting_pubrec s pending msg_id)
      (choose-exchange (is_at_two (put_awaiting s pending Published msg_id)) (awaiting s pending Published msg_id) (awaiting-fine Published msg_id))
  acknowledge-sound p peer (frames.PubComp msg_id) = pubcomp-sound (awaiting s pending Released msg_id)
  acknowledge-sound p peer (frames.RegAck topic_id msg_id code) = regack-sound code (put_awaiting s pending Registering msg_id) (put_of-well (awaiting s pending Registering msg_id))
  acknowledge-sound p peer frame = sound-nothing

-- ---- waking

claimed-sound : (g : ℕ) (v : ClientView) (s : Session) → Fine s → Sound (claimed g v s)
claimed-sound g v s f = choose-sound (is_stamp_of g v.stamp) _ _ sound-nothing (sound-changed (Take s) nothing (fine-to s f) sound-nothing)

woken_by-sound : (a : Addr) (c : List ℕ) (s : Session) (idle : Bool) (d : Drafted) (state : State) → Sound d → IsSoundRow (woken_by a c s idle d state)
woken_by-sound a c s idle d Active h = sound-sent a frames.PingResp d h
woken_by-sound a c s idle d Asleep h = choose-row idle _ _ (sound-sent a frames.PingResp d h) (sound-changed (Presence Awake s.duration) d refl h)
woken_by-sound a c s idle d Awake h = choose-row idle _ _ (sound-sent a frames.PingResp _ (sound-changed (Presence Asleep s.duration) d refl h)) h
woken_by-sound a c s idle d Disconnected h = sent-nothing a (frames.Disconnect None)
woken_by-sound a c s idle d Lost h = sent-nothing a (frames.Disconnect None)

woken_if-sound : (g : ℕ) (a : Addr) (c : List ℕ) (v : ClientView) (now : ℕ) (session : Option Session) → IfSome session Fine → IsSoundRow (woken_if g a c v now session)
woken_if-sound g a c v now None f = sent-nothing a (frames.Disconnect None)
woken_if-sound g a c v now (Some s) f = woken_by-sound a c s (has_nothing s v.pending) (bound_to a c now (claimed g v s)) s.presence (bound-sound a c now (claimed g v s) (claimed-sound g v s f))

module _ (S : List Op) (made : AreWellMade S) where
  pub ack_of-sound : (p : Entries) (a : Addr) (bound : Option (List ℕ)) (frame : Frame) (now : ℕ) → IsSoundRow (ack_row p (seen_of S) a bound frame now)
  ack_of-sound p a None frame now = sent-nothing a (frames.Disconnect None)
  ack_of-sound p a (Some c) frame now =
      sound-moved (Heard c now) _ tt (acknowledge-sound (session_of (seen_of S) c) (seen-fine c S made) (view c S).pending (pending-well c S made) p (peer_at a c now) frame)

  wake_of-sound : (g : ℕ) (a : Addr) (bound : Option (List ℕ)) (now : ℕ) → IsSoundRow (wake_of g (seen_of S) a bound now)
  wake_of-sound g a None now = sent-nothing a (frames.Disconnect None)
  wake_of-sound g a (Some c) now = sound-moved (Heard c now) _ tt (woken_if-sound g a c (view c S) now (view c S).session (view-fine c S made))

  pub wake-sound : (g : ℕ) (local : Local) (a : Addr) (c : List ℕ) (now : ℕ) → IsSoundRow (wake g (seen_of S) local a c now)
  wake-sound g local a c now =
      choose-row (length c == 0) _ _ (wake_of-sound g a (client_at a local.bindings) now)
      (heard-sound (client_at a local.bindings) now (woken g (seen_of S) a c now) (woken_if-sound g a c (view c S) now (view c S).session (view-fine c S made)))
