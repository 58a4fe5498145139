-- No exchange is begun beside one that is open.
use Rattle.std.proofs.Common.{◌≡◌, ℕ, ◌⊎◌, ◌==◌, Bool, true, false, if◌then◌else◌, List, [], ◌∷◌, ◌++◌, Option, Some, None, refl, sym, ap, ◌∙◌, subst, inl, inr, append_assoc, append-nil}
use Rattle.sn_topic.specs.Table.{Entries}
use Rattle.sn_session.specs.declared.outbound.Outbound.{Outbound as Exchange}
use Rattle.sn_session.specs.declared.outbound.Phase.{Phase}
use Rattle.sn_session.specs.declared.outbound.Phase.TheVariants.{Registering, Published, Released}
use Rattle.sn_session.specs.declared.presence.Presence.TheVariants.{Asleep}
use Rattle.sn_session.specs.declared.session.Session.{Session}
use Rattle.sn_tables.specs.declared.topics.TopicEntry.{TopicEntry}
use Rattle.sn_session.specs.declared.change.SessionOp.{SessionOp}
use Rattle.sn_session.specs.declared.change.SessionOp.TheVariants.{Presence, Outbound}
use Rattle.sn_tables.specs.Topics.{topic_named}
use Rattle.sn_frame.specs.declared.frame.Frame.TheVariants as frames
use Rattle.rep_op.specs.declared.op.Put.{Put}
use Rattle.rep_op.specs.Orders.{name_of}
use Rattle.sn_plan.specs.declared.row.Follow.{Follow}
use Rattle.sn_plan.specs.declared.row.Follow.TheVariants as follows
use Rattle.sn_plan.specs.Drafts.{Drafted, changed, changed_if, acked, sent, session_after}
use Rattle.sn_exchange.specs.declared.form.Form.{Form}
use Rattle.sn_exchange.specs.declared.peer.Peer.{Peer}
use Rattle.sn_exchange.specs.declared.delivery.ToldId.{ToldId}
use Rattle.sn_exchange.specs.Forms.{form_of, form_again, publication}
use Rattle.sn_exchange.specs.Exchanges.{left, put_left, message_of, open_exchange, is_awake}
use Rattle.sn_exchange.specs.Delivery.{Stop, next_after, id_to_tell, exchange_begun, register_first, deliver_by, none_left, and_then, deliver, deliver_left}
use Rattle.sn_exchange.specs.Resending.{given_up, register_by, publish_by, resend_in, resend_if}
use Rattle.sn_exchange.specs.Following.{followed_by}
use Rattle.step_laws.specs.Laws.{EndsFirst, OneExchange}
use Rattle.step_laws.proofs.Keeping.{delivery-rests}

-- ---- Delivery only adds changes

-- the second draft has the changes of the first, and more after them
abbrev Adds : Drafted → Drafted → Type 0
Adds d e = (more : List SessionOp) × (e.changes ≡ d.changes ++ more)

adds_none : (d e : Drafted) → e.changes ≡ d.changes → Adds d e
adds_none d e same = ([], same ∙ sym (append-nil d.changes))

adds_both : (d e f : Drafted) → Adds d e → Adds e f → Adds d f
adds_both d e f (more, h) (next, k) = (more ++ next, k ∙ ap (λ (changes : List SessionOp). changes ++ next) h ∙ append_assoc d.changes more next)

choose_adds : (b : Bool) (x y d : Drafted) → Adds d x → Adds d y → Adds d (if b then x else y)
choose_adds true x y d h k = h
choose_adds false x y d h k = k

choose_stop_adds : (b : Bool) (x y : Stop) (d : Drafted) → Adds d x.1 → Adds d y.1 → Adds d (if◌then◌else◌ {A = Stop} b x y).1
choose_stop_adds true x y d h k = h
choose_stop_adds false x y d h k = k

stop_adds : (more : Drafted → Drafted) (stop : Stop) (d : Drafted) → ((e : Drafted) → Adds e (more e)) → Adds d stop.1 → Adds d (and_then more stop)
stop_adds more (true, e) d later first = first
stop_adds more (false, e) d later first = adds_both d e (more e) first (later e)

module _ (predefined : Entries) (peer : Peer) (s : Session) where
  none_adds : (d : Drafted) → Adds d (none_left peer s d)
  none_adds d = choose_adds (is_awake s.presence) (sent peer.address frames.PingResp (changed (Presence Asleep s.duration) d)) d d
      (Presence Asleep s.duration ∷ [], refl) (adds_none d d refl)

  change_adds : (change : Option SessionOp) (d : Drafted) → Adds d (changed_if change d)
  change_adds None d = adds_none d d refl
  change_adds (Some change) d = (change ∷ [], refl)

  register_adds : (put : Put) (told : Option ToldId) (d : Drafted) → Adds d (register_first peer s put told d).1
  register_adds put None d = adds_none d (acked (name_of put) d) refl
  register_adds put (Some told) d =
      adds_both d (changed_if told.change d) (exchange_begun peer s put Registering (frames.Register told.id s.next_id put.topic) (changed_if told.change d))
      (change_adds told.change d)
      (Outbound (Some (record { origin = put.origin; seq = put.seq; msg_id = s.next_id; phase = Registering })) (next_after s.next_id) ∷ [], refl)

  form_adds : (put : Put) (form : Option Form) (d : Drafted) → Adds d (deliver_by peer s put form d).1
  form_adds put None d = register_adds put (id_to_tell s put.topic) d
  form_adds put (Some form) d =
      choose_stop_adds (put.qos == 0) (false, acked (name_of put) (sent peer.address (publication false put 0 form) d))
      (true, exchange_begun peer s put Published (publication false put s.next_id form) d) d
      (adds_none d (acked (name_of put) (sent peer.address (publication false put 0 form) d)) refl)
      (Outbound (Some (record { origin = put.origin; seq = put.seq; msg_id = s.next_id; phase = Published })) (next_after s.next_id) ∷ [], refl)

  deliver_adds : (pending : List Put) (d : Drafted) → Adds d (deliver predefined peer s pending d)
  deliver_adds [] d = none_adds d
  deliver_adds (put ∷ rest) d =
      stop_adds (deliver predefined peer s rest) (deliver_by peer s put (form_of predefined s put.topic) d) d (λ e. deliver_adds rest e)
      (form_adds put (form_of predefined s put.topic) d)

  -- ---- Resend

  -- Resend sends the frame of the exchange, or ends the exchange
  abbrev SendsOrEnds : Drafted → Stop → Type 0
  SendsOrEnds d stop = ((stop.0 ≡ true) × (stop.1.changes ≡ d.changes)) ⊎ (stop ≡ given_up s d)

  register_ends : (put : Put) (msg_id : ℕ) (entry : Option TopicEntry) (d : Drafted) → SendsOrEnds d (register_by peer s put msg_id entry d)
  register_ends put msg_id None d = inr refl
  register_ends put msg_id (Some entry) d = inl (refl, refl)

  publish_ends : (put : Put) (msg_id : ℕ) (form : Option Form) (d : Drafted) → SendsOrEnds d (publish_by peer s put msg_id form d)
  publish_ends put msg_id None d = inr refl
  publish_ends put msg_id (Some form) d = inl (refl, refl)

  resend_ends : (msg_id : ℕ) (phase : Phase) (put : Option Put) (d : Drafted) → SendsOrEnds d (resend_in predefined peer s msg_id phase put d)
  resend_ends msg_id Registering None d = inr refl
  resend_ends msg_id Registering (Some put) d = register_ends put msg_id (topic_named put.topic s.topics) d
  resend_ends msg_id Published None d = inr refl
  resend_ends msg_id Published (Some put) d = publish_ends put msg_id (form_again predefined s put.topic) d
  resend_ends msg_id Released put d = inl (refl, refl)

  after_end : (d : Drafted) (pending : List Put) (e : Drafted) → e.changes ≡ d.changes ++ Outbound None s.next_id ∷ [] → Adds e (deliver predefined peer s pending e)
      → EndsFirst d.changes s.next_id (deliver predefined peer s pending e).changes
  after_end d pending e ended (more, adds) =
      inr (more, adds ∙ ap (λ (changes : List SessionOp). changes ++ more) ended ∙ append_assoc d.changes (Outbound None s.next_id ∷ []) more)

  stop_ends : (pending : List Put) (d : Drafted) (stop : Stop) → SendsOrEnds d stop → EndsFirst d.changes s.next_id (and_then (deliver_left predefined peer s pending) stop).changes
  stop_ends pending d (true, e) (inl (stops, same)) = inl same
  stop_ends pending d (false, e) (inl (stops, same)) = absurd (cc stops)
  stop_ends pending d stop (inr ended) =
      subst (λ (end : Stop). EndsFirst d.changes s.next_id (and_then (deliver_left predefined peer s pending) end).changes) (sym ended)
      (after_end d (left d.acks pending) (changed (Outbound None s.next_id) d) refl (deliver_adds (left d.acks pending) (changed (Outbound None s.next_id) d)))

  exchange_ends : (pending : List Put) (d : Drafted) (x : Exchange) → open_exchange s d.acks pending ≡ Some x
      → EndsFirst d.changes s.next_id (resend_if predefined peer s pending (open_exchange s d.acks pending) d).changes
  exchange_ends pending d x is =
      subst (λ (found : Option Exchange). EndsFirst d.changes s.next_id (resend_if predefined peer s pending found d).changes) (sym is)
      (stop_ends pending d (resend_in predefined peer s x.msg_id x.phase (put_left d.acks pending (message_of x)) d)
      (resend_ends x.msg_id x.phase (put_left d.acks pending (message_of x)) d))

follow_ends : (predefined : Entries) (peer : Peer) (s : Session) (pending : List Put) (d : Drafted) (follow : Follow) (x : Exchange)
    → open_exchange (session_after s d) d.acks pending ≡ Some x
    → EndsFirst d.changes (session_after s d).next_id (followed_by predefined peer s pending d follow).changes
follow_ends predefined peer s pending d follows.Nothing x is = inl refl
follow_ends predefined peer s pending d follows.Delivery x is = inl (ap (λ (e : Drafted). e.changes) (delivery-rests predefined peer s pending d x is))
follow_ends predefined peer s pending d follows.Resend x is = exchange_ends predefined peer (session_after s d) pending d x is

pub one-exchange : OneExchange
one-exchange = record { delivered = delivery-rests; followed = follow_ends }
