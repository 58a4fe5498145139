-- Each row, with what follows it, acknowledges for a cause.
use Rattle.std.proofs.Common.{◌≡◌, ℕ, true, ◌⊎◌, List, [], Option, Some, None, Contains, sym, subst, inl, inr}
use Rattle.sn_topic.specs.Table.{Entries}
use Rattle.sn_frame.specs.declared.frame.Frame.{Frame}
use Rattle.sn_frame.specs.declared.frame.Frame.TheVariants as frames
use Rattle.sn_frame.specs.FlagBits.{qos_of}
use Rattle.rep_op.specs.declared.op.Put.{Put}
use Rattle.rep_op.specs.Orders.{name_of}
use Rattle.rep_op.specs.Sets.{is_acknowledged}
use Rattle.sn_local.specs.declared.config.Addr.{Addr}
use Rattle.sn_local.specs.declared.config.Send.{Send}
use Rattle.sn_local.specs.Bindings.{client_at}
use Rattle.sn_local.specs.Lifetimes.{expires_at}
use Rattle.sn_local.specs.Locals.{Local}
use Rattle.sn_local.specs.Seen.{Seen}
use Rattle.sn_plan.specs.declared.plan.Plan.{Plan}
use Rattle.sn_plan.specs.declared.row.Follow.{Follow}
use Rattle.sn_plan.specs.declared.row.Row.{Row}
use Rattle.sn_plan.specs.Bound.{session_of}
use Rattle.sn_plan.specs.Drafts.{Drafted, lasting, session_after}
use Rattle.sn_plan.specs.Rows.{row_lasting, plan_for}
use Rattle.sn_exchange.specs.Exchanges.{is_served}
use Rattle.sn_exchange.specs.Following.{peer_at, followed_by, followed_for}
use Rattle.sn_deliver.specs.Steps.{row_for, step}
use Rattle.step_laws.specs.Laws.{IsOfOneDone}
use Rattle.put_laws.specs.Causes.{sender_of, IsCause, IsSpent, IsForCause}
use Rattle.put_laws.proofs.Acked.{plan-acks, plan-sends, puts-acks}
use Rattle.put_laws.proofs.Grown.{Stays, follows-spend, follows-stay}
use Rattle.put_laws.proofs.Quiet.{QuietRow, other-quiet, disconnect-quiet, topic_update-quiet, message_update-quiet, register-quiet, subscribe-quiet, unsubscribe-quiet, publish-quiet, pubrel-quiet, wake-quiet}
use Rattle.put_laws.proofs.Fitting.{Caused, FitsFor, FitsRow, quiet-fits}
use Rattle.put_laws.proofs.Answering.{puback-fits, regack-fits, pubrec-fits, pubcomp-quiet}
use Rattle.put_laws.proofs.Accepting.{connect-fits, will_topic-fits, will_msg-fits}

-- ---- every row

module _ (g : ℕ) (p : Entries) (seen : Seen) (local : Local) (a : Addr) where
  abbrev Fits : Frame → ℕ → Type 0
  Fits frame now = FitsRow seen (IsCause seen local a frame) (sender_of local a frame) (row_for g p seen local a frame now)

  quiet : (frame : Frame) (now : ℕ) → QuietRow seen (sender_of local a frame) (row_for g p seen local a frame now) → Fits frame now
  quiet frame now h = quiet-fits seen (IsCause seen local a frame) (sender_of local a frame) (row_for g p seen local a frame now) h

  pub row-fits : (frame : Frame) (now : ℕ) → Fits frame now
  row-fits (frames.Connect flags protocol duration client) now = connect-fits seen local a flags protocol duration client now
  row-fits (frames.WillTopic will) now = will_topic-fits seen local a will now
  row-fits (frames.WillMsg message) now = will_msg-fits seen local a message now
  row-fits (frames.Disconnect duration) now = quiet (frames.Disconnect duration) now (disconnect-quiet seen a now (client_at a local.bindings) duration)
  row-fits (frames.Register topic_id msg_id name) now = quiet (frames.Register topic_id msg_id name) now (register-quiet seen a now (client_at a local.bindings) msg_id name)
  row-fits (frames.Subscribe flags msg_id topic) now = quiet (frames.Subscribe flags msg_id topic) now (subscribe-quiet seen a now p (client_at a local.bindings) flags.bits msg_id topic)
  row-fits (frames.Unsubscribe flags msg_id topic) now = quiet (frames.Unsubscribe flags msg_id topic) now (unsubscribe-quiet seen a now p (client_at a local.bindings) flags.bits msg_id topic)
  row-fits (frames.WillTopicUpd will) now = quiet (frames.WillTopicUpd will) now (topic_update-quiet seen a now (client_at a local.bindings) will)
  row-fits (frames.WillMsgUpd message) now = quiet (frames.WillMsgUpd message) now (message_update-quiet seen a now (client_at a local.bindings) message)
  row-fits (frames.Publish flags topic msg_id body) now = quiet (frames.Publish flags topic msg_id body) now (publish-quiet seen a now p local flags.bits topic msg_id body (qos_of flags.bits))
  row-fits (frames.PubRel msg_id) now = quiet (frames.PubRel msg_id) now (pubrel-quiet seen a now (client_at a local.bindings) msg_id)
  row-fits (frames.PubAck topic_id msg_id code) now = puback-fits p seen local a now topic_id msg_id code (client_at a local.bindings)
  row-fits (frames.PubRec msg_id) now = pubrec-fits p seen local a now msg_id (client_at a local.bindings)
  row-fits (frames.PubComp msg_id) now = quiet (frames.PubComp msg_id) now (pubcomp-quiet p seen local a now msg_id (client_at a local.bindings))
  row-fits (frames.RegAck topic_id msg_id code) now = regack-fits p seen local a now topic_id msg_id code (client_at a local.bindings)
  row-fits (frames.PingReq client) now = quiet (frames.PingReq client) now (wake-quiet seen a now g local client)
  row-fits frame now = quiet frame now (other-quiet seen g local a frame now)

-- ---- what is a cause by some frames is one by more

module _ (seen : Seen) (local : Local) (a : Addr) (old new : List Send) (more : (m : Send) → Contains old m → Contains new m) (c : List ℕ) (put : Put) where
  cause-more : (frame : Frame) → IsCause seen local a frame old c put → IsCause seen local a frame new c put
  cause-more (frames.Connect flags protocol duration client) h = (h.0, h.1, more _ h.2)
  cause-more (frames.WillTopic will) h = (h.0, more _ h.1)
  cause-more (frames.WillMsg message) h = (h.0, more _ h.1)
  cause-more (frames.PubAck topic_id msg_id code) h = h
  cause-more (frames.PubRec msg_id) h = h
  cause-more (frames.RegAck topic_id msg_id code) h = h
  cause-more frame h = absurd h

-- ---- the plan of a row, with what follows it

module _ (g : ℕ) (p : Entries) (seen : Seen) (local : Local) (a : Addr) (frame : Frame) (now : ℕ) (plan : Plan) where
  -- the name is acknowledged for a cause, or since Delivery is done with it, by the session after the row
  abbrev IsFor : Drafted → List ℕ → ℕ × ℕ → Type 0
  IsFor d c name = (sender_of local a frame ≡ Some c) × ((put : Put) × Contains (seen.of c).pending put × (name ≡ name_of put)
      × (IsCause seen local a frame plan.sends c put ⊎ IsSpent p a c now (session_after (session_of seen c) d) put plan.sends))

  module _ (d : Drafted) (c : List ℕ) (is : sender_of local a frame ≡ Some c) (name : ℕ × ℕ) where
    by-cause : Stays d (record { changes = []; acks = []; handed = []; retain = None; puts = []; expires = 0; sends = plan.sends; local = [] }) → Caused seen (IsCause seen local a frame) d.sends c name → IsFor d c name
    by-cause stays (put, among, named, cause) = (is, (put, among, named, inl (cause-more seen local a d.sends plan.sends stays c put frame cause)))

    by-delivery : is_served (session_after (session_of seen c) d).presence ≡ true → IsOfOneDone p (peer_at a c now) (session_after (session_of seen c) d) (seen.of c).pending plan.sends name → IsFor d c name
    by-delivery served (put, among, named, done) = (is, (put, among, named, inr (served, done)))

    module _ (follow : Follow) where
      abbrev behind : Drafted
      behind = followed_by p (peer_at a c now) (session_of seen c) (seen.of c).pending d follow

      by-either : plan.sends ≡ behind.sends → (Contains d.acks name → Caused seen (IsCause seen local a frame) d.sends c name)
          → Contains d.acks name ⊎ ((is_served (session_after (session_of seen c) d).presence ≡ true) × IsOfOneDone p (peer_at a c now) (session_after (session_of seen c) d) (seen.of c).pending behind.sends name) → IsFor d c name
      by-either same causes (inl there) =
          by-cause (λ m before. subst (λ (sends : List Send). Contains sends m) (sym same) (follows-stay p (peer_at a c now) (session_of seen c) (seen.of c).pending d follow m before)) (causes there)
      by-either same causes (inr done) =
          by-delivery done.0 (subst (λ (sends : List Send). IsOfOneDone p (peer_at a c now) (session_after (session_of seen c) d) (seen.of c).pending sends name) (sym same) done.1)

  row-cause : (d : Drafted) (follow : Follow) (client : Option (List ℕ)) → FitsFor seen (IsCause seen local a frame) (sender_of local a frame) client d follow
      → plan_for g seen (followed_for p seen a now d follow client) client ≡ Some plan → (e : List ℕ) (name : ℕ × ℕ) → is_acknowledged e plan.ops name ≡ true → IsFor d e name
  row-cause d follow None h is e name acked = absurd (puts-acks g seen d plan is e name acked)
  row-cause d follow (Some c) h is e name acked =
      let f : Drafted = followed_by p (peer_at a c now) (session_of seen c) (seen.of c).pending d follow in
      let w = plan-acks g c seen f plan is e name acked in
      subst (λ (x : List ℕ). IsFor d x name) (sym w.0)
      (by-either d c h.0 name follow (plan-sends g c seen f plan is) (h.1 name) (follows-spend p (peer_at a c now) (session_of seen c) (seen.of c).pending d follow h.2 name w.1))

-- a moment is no cause
lasting-fits : (seen : Seen) (cause : List Send → List ℕ → Put → Type 0) (from : Option (List ℕ)) (client : Option (List ℕ)) (d : Drafted) (follow : Follow) (moment : ℕ)
    → FitsFor seen cause from client d follow → FitsFor seen cause from client (lasting moment d) follow
lasting-fits seen cause from None d follow moment h = h
lasting-fits seen cause from (Some c) d follow moment h = h

pub step-cause : (g lifetime : ℕ) (p : Entries) (seen : Seen) (local : Local) (a : Addr) (frame : Frame) (now : ℕ) (plan : Plan) (c : List ℕ) (name : ℕ × ℕ)
    → step g lifetime p seen local a frame now ≡ Some plan → is_acknowledged c plan.ops name ≡ true → IsForCause g p seen local a frame now plan.sends c name
unfolding step
step-cause g lifetime p seen local a frame now plan c name is acked =
    let row : Row = row_for g p seen local a frame now in
    let last : Row = row_lasting (expires_at lifetime now) row in
    row-cause g p seen local a frame now plan last.draft last.follow last.client
    (lasting-fits seen (IsCause seen local a frame) (sender_of local a frame) row.client row.draft row.follow (expires_at lifetime now) (row-fits g p seen local a frame now)) is c name acked
