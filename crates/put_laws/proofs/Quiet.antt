-- Rows that acknowledge nothing.
use Rattle.std.proofs.Common.{◌≡◌, ℕ, Bool, true, false, ◌==◌, if◌then◌else◌, List, [], length, Option, Some, None, unwrap_or, refl, ap, ◌∙◌}
use Rattle.sn_topic.specs.Table.{Entries}
use Rattle.sn_session.specs.declared.presence.Presence.{Presence as State}
use Rattle.sn_session.specs.declared.presence.Presence.TheVariants.{Active, Asleep, Awake, Disconnected, Lost}
use Rattle.sn_session.specs.declared.session.Session.{Session}
use Rattle.sn_session.specs.declared.change.SessionOp.{SessionOp}
use Rattle.sn_session.specs.declared.change.SessionOp.TheVariants.{Take, Presence}
use Rattle.sn_session.specs.Session.{applied, empty_session}
use Rattle.sn_tables.specs.Received.{is_received, id_has_no_room}
use Rattle.sn_frame.specs.declared.flags.Qos.{Qos}
use Rattle.sn_frame.specs.declared.flags.Qos.TheVariants as levels
use Rattle.sn_frame.specs.declared.frame.Frame.{Frame}
use Rattle.sn_frame.specs.declared.frame.Frame.TheVariants as frames
use Rattle.sn_frame.specs.declared.frame.Will.{Will}
use Rattle.sn_frame.specs.FlagBits.{qos_of}
use Rattle.sn_local.specs.declared.config.Addr.{Addr}
use Rattle.sn_local.specs.declared.local.LocalChange.{LocalChange}
use Rattle.sn_local.specs.declared.local.LocalChange.TheVariants.{Heard}
use Rattle.sn_local.specs.Bindings.{client_at, is_stamp_of}
use Rattle.sn_local.specs.Locals.{Local}
use Rattle.sn_local.specs.Seen.{Seen}
use Rattle.sn_plan.specs.declared.row.Follow.{Follow}
use Rattle.sn_plan.specs.declared.row.Follow.TheVariants as follows
use Rattle.sn_plan.specs.declared.row.Row.{Row}
use Rattle.sn_plan.specs.Asking.{retain_asked}
use Rattle.sn_plan.specs.Bound.{bound_to, session_of}
use Rattle.sn_plan.specs.Drafts.{Drafted, nothing, changed, changed_if, moved, session_after}
use Rattle.sn_plan.specs.Others.{other}
use Rattle.sn_plan.specs.Rows.{row_of, row_with_timer, unexpected_row}
use Rattle.sn_flow.specs.Connection.{leave, fall_asleep, disconnect_draft, disconnect_of}
use Rattle.sn_flow.specs.Wills.{topic_update_of, message_update_of}
use Rattle.sn_subscribe.specs.Handing.{waiting_for}
use Rattle.sn_subscribe.specs.TopicRows.{register_of, subscribe_of, unsubscribe_of}
use Rattle.sn_publish.specs.declared.meaning.Meant.{Meant}
use Rattle.sn_publish.specs.declared.meaning.Meant.TheVariants.{Topic, Refused}
use Rattle.sn_publish.specs.Publishing.{publication_meant, publish_at, publish_meant, release}
use Rattle.sn_exchange.specs.Exchanges.{is_served}
use Rattle.sn_deliver.specs.Serving.{publish_of, publish_in_at, pubrel_of}
use Rattle.sn_deliver.specs.Waking.{claimed, ping_answered, has_nothing, woken_by, woken_if, woken, wake_of, wake}
use Rattle.sn_plan.proofs.Lists.{fold_one_more}
use Rattle.row_laws.proofs.Keeping.{of_register, of_subscribe, of_unsubscribe, of_will_topic_update, of_will_msg_update}
use Rattle.put_laws.proofs.Grown.{IsServed}

-- a row for the client that the frame is from, or for nobody, that acknowledges nothing
abbrev pub QuietFor : Seen → Option (List ℕ) → Option (List ℕ) → Drafted → Follow → Type 0
QuietFor seen sender None d follow = Unit {0}
QuietFor seen sender (Some c) d follow = (sender ≡ Some c) × (d.acks ≡ []) × IsServed (session_after (session_of seen c) d) follow

abbrev pub QuietRow : Seen → Option (List ℕ) → Row → Type 0
QuietRow seen sender row = QuietFor seen sender row.client row.draft row.follow

moved-quiet : (seen : Seen) (sender client : Option (List ℕ)) (change : LocalChange) (d : Drafted) (follow : Follow) → QuietFor seen sender client d follow → QuietFor seen sender client (moved change d) follow
moved-quiet seen sender None change d follow h = tt
moved-quiet seen sender (Some c) change d follow h = h

heard-quiet : (seen : Seen) (sender bound : Option (List ℕ)) (now : ℕ) (row : Row) → QuietRow seen sender row → QuietRow seen sender (row_with_timer bound now row)
heard-quiet seen sender None now row h = h
heard-quiet seen sender (Some c) now row h = moved-quiet seen sender row.client (Heard c now) row.draft row.follow h

pub stray-quiet : (seen : Seen) (a : Addr) (bound : Option (List ℕ)) (now : ℕ) → QuietRow seen bound (unexpected_row a bound now)
stray-quiet seen a None now = tt
stray-quiet seen a (Some c) now = (refl, refl, tt)

choose-row : (seen : Seen) (b : Bool) (sender : Option (List ℕ)) (x y : Row) → QuietRow seen sender x → QuietRow seen sender y → QuietRow seen sender (if b then x else y)
choose-row seen true sender x y h k = h
choose-row seen false sender x y h k = k

choose-both : (seen : Seen) (b : Bool) (s t : Option (List ℕ)) (x y : Row) → QuietRow seen s x → QuietRow seen t y → QuietRow seen (if b then s else t) (if b then x else y)
choose-both seen true s t x y h k = h
choose-both seen false s t x y h k = k

choose-none : (b : Bool) (x y : Drafted) → x.acks ≡ [] → y.acks ≡ [] → (if b then x else y).acks ≡ []
choose-none true x y h k = h
choose-none false x y h k = k

changed_if-acks : (change : Option SessionOp) (d : Drafted) → (changed_if change d).acks ≡ d.acks
changed_if-acks None d = refl
changed_if-acks (Some change) d = refl

pub other-quiet : (seen : Seen) (g : ℕ) (local : Local) (a : Addr) (frame : Frame) (now : ℕ) → QuietRow seen (client_at a local.bindings) (other g local a frame now)
other-quiet seen g local a (frames.SearchGw radius) now = tt
other-quiet seen g local a (frames.Advertise gateway duration) now = tt
other-quiet seen g local a (frames.GwInfo gateway address) now = tt
other-quiet seen g local a (frames.ConnAck code) now = tt
other-quiet seen g local a frames.WillTopicReq now = tt
other-quiet seen g local a frames.WillMsgReq now = tt
other-quiet seen g local a (frames.SubAck flags topic_id msg_id code) now = tt
other-quiet seen g local a (frames.UnsubAck msg_id) now = tt
other-quiet seen g local a (frames.WillTopicResp code) now = tt
other-quiet seen g local a (frames.WillMsgResp code) now = tt
other-quiet seen g local a frame now = stray-quiet seen a (client_at a local.bindings) now

-- ---- connections, wills and topics

disconnect-acks : (a : Addr) (c : List ℕ) (s : Session) (duration : Option ℕ) → (disconnect_draft a c s duration).acks ≡ []
disconnect-acks a c s None = refl
disconnect-acks a c s (Some duration) = choose-none (duration == 0) (leave a c s) (fall_asleep a duration) refl refl

module _ (seen : Seen) (a : Addr) (now : ℕ) where
  pub disconnect-quiet : (bound : Option (List ℕ)) (duration : Option ℕ) → QuietRow seen bound (disconnect_of seen a bound duration now)
  disconnect-quiet None duration = tt
  disconnect-quiet (Some c) duration = (refl, disconnect-acks a c (session_of seen c) duration, tt)

  pub topic_update-quiet : (bound : Option (List ℕ)) (will : Option Will) → QuietRow seen bound (topic_update_of a bound will now)
  topic_update-quiet None will = tt
  topic_update-quiet (Some c) will = (refl, (of_will_topic_update a will).leaves.acks, tt)

  pub message_update-quiet : (bound : Option (List ℕ)) (message : List ℕ) → QuietRow seen bound (message_update_of seen a bound message now)
  message_update-quiet None message = tt
  message_update-quiet (Some c) message = (refl, (of_will_msg_update a (session_of seen c) message).leaves.acks, tt)

  pub register-quiet : (bound : Option (List ℕ)) (msg_id : ℕ) (name : List ℕ) → QuietRow seen bound (register_of seen a bound msg_id name now)
  register-quiet None msg_id name = tt
  register-quiet (Some c) msg_id name = (refl, (of_register a (session_of seen c) msg_id name).leaves.acks, tt)

  pub subscribe-quiet : (predefined : Entries) (bound : Option (List ℕ)) (bits msg_id : ℕ) (field : List ℕ) → QuietRow seen bound (subscribe_of predefined seen a bound bits msg_id field now)
  subscribe-quiet predefined None bits msg_id field = tt
  subscribe-quiet predefined (Some c) bits msg_id field = (refl, (of_subscribe predefined seen (waiting_for seen c) a (session_of seen c) bits msg_id field).acks, tt)

  pub unsubscribe-quiet : (predefined : Entries) (bound : Option (List ℕ)) (bits msg_id : ℕ) (field : List ℕ) → QuietRow seen bound (unsubscribe_of predefined seen a bound bits msg_id field now)
  unsubscribe-quiet predefined None bits msg_id field = tt
  unsubscribe-quiet predefined (Some c) bits msg_id field = (refl, (of_unsubscribe predefined a (session_of seen c) bits msg_id field).leaves.acks, tt)

  -- ---- publications

  publish_at-acks : (asked : Bool) (s : Session) (topic msg_id : ℕ) (body name : List ℕ) (qos : Qos) → (publish_at seen asked a s topic msg_id body name qos).acks ≡ []
  publish_at-acks asked s topic msg_id body name levels.Zero = refl
  publish_at-acks asked s topic msg_id body name levels.One = refl
  publish_at-acks asked s topic msg_id body name levels.Two =
      choose-none (is_received msg_id s.received) _ _ refl (choose-none (id_has_no_room msg_id s.received) _ _ refl refl)
  publish_at-acks asked s topic msg_id body name levels.MinusOne = refl

  publish_meant-acks : (asked : Bool) (s : Session) (topic msg_id : ℕ) (body : List ℕ) (qos : Qos) (meant : Meant) → (publish_meant seen asked a s topic msg_id body qos meant).acks ≡ []
  publish_meant-acks asked s topic msg_id body qos (Refused code) = refl
  publish_meant-acks asked s topic msg_id body qos (Topic name) = publish_at-acks asked s topic msg_id body name qos

  publish_of-quiet : (predefined : Entries) (bound : Option (List ℕ)) (bits topic msg_id : ℕ) (body : List ℕ) → QuietRow seen bound (publish_of predefined seen a bound bits topic msg_id body now)
  publish_of-quiet predefined None bits topic msg_id body = tt
  publish_of-quiet predefined (Some c) bits topic msg_id body =
      (refl, publish_meant-acks (retain_asked bits) (session_of seen c) topic msg_id body (qos_of bits) (publication_meant predefined (session_of seen c) bits topic body), tt)

  pub publish-quiet : (predefined : Entries) (local : Local) (bits topic msg_id : ℕ) (body : List ℕ) (qos : Qos) → QuietRow seen (client_at a local.bindings) (publish_in_at predefined seen local a bits topic msg_id body now qos)
  publish-quiet predefined local bits topic msg_id body levels.MinusOne = tt
  publish-quiet predefined local bits topic msg_id body levels.Zero = publish_of-quiet predefined (client_at a local.bindings) bits topic msg_id body
  publish-quiet predefined local bits topic msg_id body levels.One = publish_of-quiet predefined (client_at a local.bindings) bits topic msg_id body
  publish-quiet predefined local bits topic msg_id body levels.Two = publish_of-quiet predefined (client_at a local.bindings) bits topic msg_id body

  pub pubrel-quiet : (bound : Option (List ℕ)) (msg_id : ℕ) → QuietRow seen bound (pubrel_of seen a bound msg_id now)
  pubrel-quiet None msg_id = tt
  pubrel-quiet (Some c) msg_id = (refl, changed_if-acks (release (session_of seen c) msg_id) nothing, tt)

  -- ---- waking

  -- the session after a draft that leaves the client as it is, or takes it over so
  module _ (c : List ℕ) (s : Session) (idle : Bool) (d : Drafted) (none : d.acks ≡ []) (kept : session_after (session_of seen c) d ≡ s) where
    awake-served : is_served (session_after (session_of seen c) (changed (Presence Awake s.duration) d)).presence ≡ true
    awake-served = ap (λ (x : Session). is_served x.presence) (fold_one_more applied (session_of seen c) d.changes (Presence Awake s.duration))

    woken_by-quiet : (state : State) → s.presence ≡ state → QuietRow seen (Some c) (woken_by a c s idle d state)
    woken_by-quiet Active is = (refl, none, tt)
    woken_by-quiet Asleep is =
        choose-row seen idle (Some c) (row_of follows.Nothing c (ping_answered a d)) (row_of follows.Resend c (changed (Presence Awake s.duration) d)) (refl, none, tt) (refl, none, awake-served)
    woken_by-quiet Awake is =
        choose-row seen idle (Some c) (row_of follows.Nothing c (ping_answered a (changed (Presence Asleep s.duration) d))) (row_of follows.Resend c d) (refl, none, tt)
        (refl, none, ap (λ (x : Session). is_served x.presence) kept ∙ ap is_served is)
    woken_by-quiet Disconnected is = tt
    woken_by-quiet Lost is = tt

  claimed-kept : (c : List ℕ) (s : Session) (b : Bool) → session_of seen c ≡ s → session_after (session_of seen c) (if b then nothing else changed (Take s) nothing) ≡ s
  claimed-kept c s true is = is
  claimed-kept c s false is = refl

  woken_if-quiet : (g : ℕ) (c : List ℕ) (session : Option Session) → (seen.of c).session ≡ session → QuietRow seen (Some c) (woken_if g a c (seen.of c) now session)
  woken_if-quiet g c None is = tt
  woken_if-quiet g c (Some s) is =
      woken_by-quiet c s (has_nothing s (seen.of c).pending) (bound_to a c now (claimed g (seen.of c) s))
      (choose-none (is_stamp_of g (seen.of c).stamp) nothing (changed (Take s) nothing) refl refl)
      (claimed-kept c s (is_stamp_of g (seen.of c).stamp) (ap (λ (o : Option Session). unwrap_or o empty_session) is)) s.presence refl

  wake_of-quiet : (g : ℕ) (bound : Option (List ℕ)) → QuietRow seen bound (wake_of g seen a bound now)
  wake_of-quiet g None = tt
  wake_of-quiet g (Some c) = heard-quiet seen (Some c) (Some c) now (woken g seen a c now) (woken_if-quiet g c (seen.of c).session refl)

  pub wake-quiet : (g : ℕ) (local : Local) (c : List ℕ) → QuietRow seen (if length c == 0 then client_at a local.bindings else Some c) (wake g seen local a c now)
  wake-quiet g local c =
      choose-both seen (length c == 0) (client_at a local.bindings) (Some c) (wake_of g seen a (client_at a local.bindings) now) (row_with_timer (client_at a local.bindings) now (woken g seen a c now))
      (wake_of-quiet g (client_at a local.bindings))
      (heard-quiet seen (Some c) (client_at a local.bindings) now (woken g seen a c now) (woken_if-quiet g c (seen.of c).session refl))
