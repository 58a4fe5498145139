-- What follows a row brings no id: Delivery, and Resend.
use Rattle.std.proofs.Common.{ℕ, ◌==◌, Bool, true, false, ◌&&◌, is_none, if◌then◌else◌, List, [], ◌∷◌, Option, Some, None, IfSome}
use Rattle.sn_topic.specs.Table.{Entries}
use Rattle.sn_session.specs.declared.presence.Presence.TheVariants.{Asleep}
use Rattle.sn_session.specs.declared.outbound.Outbound.{Outbound as Exchange}
use Rattle.sn_session.specs.declared.outbound.Phase.{Phase}
use Rattle.sn_session.specs.declared.outbound.Phase.TheVariants.{Registering, Published, Released}
use Rattle.sn_session.specs.declared.session.Session.{Session}
use Rattle.sn_session.specs.declared.change.SessionOp.TheVariants.{Presence, Outbound}
use Rattle.sn_tables.specs.declared.topics.TopicEntry.{TopicEntry}
use Rattle.sn_tables.specs.Topics.{topic_named, free_id}
use Rattle.sn_frame.specs.declared.frame.Frame.{Frame}
use Rattle.sn_frame.specs.declared.frame.Frame.TheVariants as frames
use Rattle.rep_op.specs.declared.op.Put.{Put}
use Rattle.rep_op.specs.Orders.{name_of}
use Rattle.sn_local.specs.declared.config.Addr.{Addr}
use Rattle.sn_local.specs.Seen.{Seen}
use Rattle.sn_plan.specs.declared.row.Follow.{Follow}
use Rattle.sn_plan.specs.declared.row.Follow.TheVariants as follows
use Rattle.sn_plan.specs.Bound.{session_of}
use Rattle.sn_plan.specs.Drafts.{Drafted, changed, changed_if, acked, sent, session_after}
use Rattle.sn_exchange.specs.declared.delivery.ToldId.{ToldId}
use Rattle.sn_exchange.specs.declared.form.Form.{Form}
use Rattle.sn_exchange.specs.declared.peer.Peer.{Peer}
use Rattle.sn_exchange.specs.Forms.{form_of, form_again, publication}
use Rattle.sn_exchange.specs.Exchanges.{left, put_left, message_of, open_exchange, is_served, is_awake}
use Rattle.sn_exchange.specs.Delivery.{next_after, Stop, exchange_begun, entry_or_fresh, id_to_tell, register_first, deliver_by, none_left, and_then, deliver, deliver_left, deliver_if}
use Rattle.sn_exchange.specs.Resending.{register_by, register_again, publish_by, publish_again, resend_in, resend_if}
use Rattle.sn_exchange.specs.Following.{peer_at, followed_by, followed_for}
use Rattle.promise_laws.proofs.Carrying.{IsCarried, Carried, CarriedFor, carried-more, carried-if, choose-carried}

module _ (seen : Seen) (A : List ℕ → ℕ → Type 0) (c : List ℕ) where
  abbrev Holds : Drafted → Type 0
  Holds d = Carried seen A c d

  choose-stop : (b : Bool) (x y : Stop) → Holds x.1 → Holds y.1 → Holds (if◌then◌else◌ {A = Stop} b x y).1
  choose-stop true x y h k = h
  choose-stop false x y h k = k

  stop-carried : (more : Drafted → Drafted) (stop : Stop) → Holds stop.1 → ((e : Drafted) → Holds e → Holds (more e)) → Holds (and_then more stop)
  stop-carried more (true, e) h keeps = h
  stop-carried more (false, e) h keeps = keeps e h

  told-carried : (name : List ℕ) (entry : Option TopicEntry) (free : Option ℕ) → IfSome (entry_or_fresh name entry free) (λ (told : ToldId). IfSome told.change (IsCarried seen A c))
  told-carried name None None = tt
  told-carried name None (Some id) = λ other b. absurd b
  told-carried name (Some entry) free = tt

  module _ (predefined : Entries) (peer : Peer) (s : Session) where
    begun-carried : (put : Put) (phase : Phase) (frame : Frame) (d : Drafted) → Holds d → Holds (exchange_begun peer s put phase frame d)
    begun-carried put phase frame d h =
        let x : Exchange = record { origin = put.origin; seq = put.seq; msg_id = s.next_id; phase = phase } in
        carried-more seen A c (Outbound (Some x) (next_after s.next_id)) d (λ id b. absurd b) h

    register-carried : (put : Put) (told : Option ToldId) (d : Drafted) → IfSome told (λ (t : ToldId). IfSome t.change (IsCarried seen A c)) → Holds d → Holds (register_first peer s put told d).1
    register-carried put None d k h = h
    register-carried put (Some told) d k h =
        begun-carried put Registering (frames.Register told.id s.next_id put.topic) (changed_if told.change d) (carried-if seen A c told.change d k h)

    form-carried : (put : Put) (form : Option Form) (d : Drafted) → Holds d → Holds (deliver_by peer s put form d).1
    form-carried put None d h =
        register-carried put (id_to_tell s put.topic) d (told-carried put.topic (topic_named put.topic s.topics) (free_id s.topics)) h
    form-carried put (Some form) d h =
        choose-stop (put.qos == 0) (false, acked (name_of put) (sent peer.address (publication false put 0 form) d))
        (true, exchange_begun peer s put Published (publication false put s.next_id form) d) h
        (begun-carried put Published (publication false put s.next_id form) d h)

    none-carried : (d : Drafted) → Holds d → Holds (none_left peer s d)
    none-carried d h =
        choose-carried seen A c (is_awake s.presence) (sent peer.address frames.PingResp (changed (Presence Asleep s.duration) d)) d
        (carried-more seen A c (Presence Asleep s.duration) d (λ id b. absurd b) h) h

    deliver-carried : (pending : List Put) (d : Drafted) → Holds d → Holds (deliver predefined peer s pending d)
    deliver-carried [] d h = none-carried d h
    deliver-carried (put ∷ rest) d h =
        stop-carried (deliver predefined peer s rest) (deliver_by peer s put (form_of predefined s put.topic) d) (form-carried put (form_of predefined s put.topic) d h)
        (λ e k. deliver-carried rest e k)

    left-carried : (pending : List Put) (d : Drafted) → Holds d → Holds (deliver_left predefined peer s pending d)
    left-carried pending d h = deliver-carried (left d.acks pending) d h

    if-carried : (pending : List Put) (d : Drafted) → Holds d → Holds (deliver_if predefined peer s pending d)
    if-carried pending d h =
        choose-carried seen A c (is_served s.presence && is_none (open_exchange s d.acks pending)) (deliver_left predefined peer s pending d) d (left-carried pending d h) h

    -- ---- Resend

    given_up-carried : (d : Drafted) → Holds d → Holds (changed (Outbound None s.next_id) d)
    given_up-carried d h = carried-more seen A c (Outbound None s.next_id) d (λ id b. absurd b) h

    register_by-carried : (put : Put) (msg_id : ℕ) (entry : Option TopicEntry) (d : Drafted) → Holds d → Holds (register_by peer s put msg_id entry d).1
    register_by-carried put msg_id None d h = given_up-carried d h
    register_by-carried put msg_id (Some entry) d h = h

    register_again-carried : (msg_id : ℕ) (put : Option Put) (d : Drafted) → Holds d → Holds (register_again peer s msg_id put d).1
    register_again-carried msg_id None d h = given_up-carried d h
    register_again-carried msg_id (Some put) d h = register_by-carried put msg_id (topic_named put.topic s.topics) d h

    publish_by-carried : (put : Put) (msg_id : ℕ) (form : Option Form) (d : Drafted) → Holds d → Holds (publish_by peer s put msg_id form d).1
    publish_by-carried put msg_id None d h = given_up-carried d h
    publish_by-carried put msg_id (Some form) d h = h

    publish_again-carried : (msg_id : ℕ) (put : Option Put) (d : Drafted) → Holds d → Holds (publish_again predefined peer s msg_id put d).1
    publish_again-carried msg_id None d h = given_up-carried d h
    publish_again-carried msg_id (Some put) d h = publish_by-carried put msg_id (form_again predefined s put.topic) d h

    resend_in-carried : (msg_id : ℕ) (phase : Phase) (put : Option Put) (d : Drafted) → Holds d → Holds (resend_in predefined peer s msg_id phase put d).1
    resend_in-carried msg_id Registering put d h = register_again-carried msg_id put d h
    resend_in-carried msg_id Published put d h = publish_again-carried msg_id put d h
    resend_in-carried msg_id Released put d h = h

    resend-carried : (pending : List Put) (x : Option Exchange) (d : Drafted) → Holds d → Holds (resend_if predefined peer s pending x d)
    resend-carried pending None d h = if-carried pending d h
    resend-carried pending (Some x) d h =
        stop-carried (deliver_left predefined peer s pending) (resend_in predefined peer s x.msg_id x.phase (put_left d.acks pending (message_of x)) d)
        (resend_in-carried x.msg_id x.phase (put_left d.acks pending (message_of x)) d h)
        (λ e k. left-carried pending e k)

  followed-carried : (predefined : Entries) (peer : Peer) (s : Session) (pending : List Put) (d : Drafted) (follow : Follow) → Holds d → Holds (followed_by predefined peer s pending d follow)
  followed-carried predefined peer s pending d follows.Nothing h = h
  followed-carried predefined peer s pending d follows.Delivery h = if-carried predefined peer (session_after s d) pending d h
  followed-carried predefined peer s pending d follows.Resend h = resend-carried predefined peer (session_after s d) pending (open_exchange (session_after s d) d.acks pending) d h

pub for-carried : (seen : Seen) (A : List ℕ → ℕ → Type 0) (predefined : Entries) (a : Addr) (now : ℕ) (d : Drafted) (follow : Follow) (client : Option (List ℕ))
    → CarriedFor seen A client d → CarriedFor seen A client (followed_for predefined seen a now d follow client)
for-carried seen A predefined a now d follow None h = tt
for-carried seen A predefined a now d follow (Some c) h = followed-carried seen A c predefined (peer_at a c now) (session_of seen c) (seen.of c).pending d follow h
