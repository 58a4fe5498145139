-- What a tick found due with a client is not due any more when the tick has done it.
use Rattle.std.proofs.Common.{◌≡◌, ℕ, ◌==◌, Bool, true, false, ◌||◌, if◌then◌else◌, nat_lt, nat_le, is_some, is_none, List, [], ◌∷◌, ◌++◌, length, fold, Option, Some, None, refl, sym, ap, ◌∙◌, subst, arith}
use Rattle.std.proofs.lemmas.Bool.{and_from}
use Rattle.std.proofs.lemmas.Bool.Decides.{nat_tests}
use Rattle.std.proofs.lemmas.List.Sums.{fold-append}
use Rattle.sn_topic.specs.Table.{Entries}
use Rattle.sn_session.specs.declared.presence.Presence.TheVariants.{Asleep, Lost}
use Rattle.sn_session.specs.declared.outbound.Outbound.{Outbound as Exchange}
use Rattle.sn_session.specs.declared.outbound.Phase.{Phase}
use Rattle.sn_session.specs.declared.outbound.Phase.TheVariants.{Registering, Published, Released}
use Rattle.sn_session.specs.declared.session.Session.{Session}
use Rattle.sn_tables.specs.declared.topics.TopicEntry.{TopicEntry}
use Rattle.sn_session.specs.declared.change.SessionOp.{SessionOp}
use Rattle.sn_session.specs.declared.change.SessionOp.TheVariants.{Presence as SetPresence, Register, Outbound}
use Rattle.sn_tables.specs.Topics.{topic_named, free_id}
use Rattle.sn_session.specs.Session.{applied, session_changed}
use Rattle.sn_frame.specs.declared.frame.Frame.{Frame}
use Rattle.sn_frame.specs.declared.frame.Frame.TheVariants as frames
use Rattle.rep_op.specs.declared.op.Put.{Put}
use Rattle.rep_op.specs.Orders.{name_of}
use Rattle.sn_local.specs.declared.config.Addr.{Addr}
use Rattle.sn_local.specs.declared.config.Send.{Send}
use Rattle.sn_plan.specs.declared.draft.NewPut.{NewPut}
use Rattle.sn_plan.specs.declared.draft.Posted.{Posted}
use Rattle.sn_local.specs.declared.local.Timer.{Timer}
use Rattle.sn_local.specs.declared.local.LocalChange.{LocalChange}
use Rattle.sn_local.specs.declared.local.LocalChange.TheVariants.{Sent, Resent, Retried}
use Rattle.sn_plan.specs.Drafts.{Drafted, changed, acked, sent, moved}
use Rattle.sn_local.specs.Seen.{Seen}
use Rattle.sn_plan.specs.Bound.{session_of}
use Rattle.sn_local.specs.Timers.{timer_of, sent_at, resent_at, retried_at, timers_after}
use Rattle.sn_tick.specs.declared.due.Due.{Due}
use Rattle.sn_tick.specs.declared.due.Due.TheVariants.{Expiry, Loss, Retry, Delivery}
use Rattle.sn_exchange.specs.declared.form.Form.{Form}
use Rattle.sn_exchange.specs.declared.peer.Peer.{Peer}
use Rattle.sn_exchange.specs.Forms.{form_of, form_again, publication}
use Rattle.sn_exchange.specs.Exchanges.{left, put_left, message_of, is_open_in, open_exchange, is_served, is_awake}
use Rattle.sn_exchange.specs.Delivery.{next_after, entry_or_fresh, exchange_begun, register_first, deliver_by, and_then, deliver, deliver_left}
use Rattle.sn_exchange.specs.Resending.{given_up, register_by, publish_by, resend_in, resend_if}
use Rattle.sn_tick.specs.Due.{elapsed, is_overdue, due_exchange, due_by, due_at, due_session}
use Rattle.sn_tick.specs.Ticking.{lost}
use Rattle.step_laws.specs.Laws.{AreNamedApart, due_after, due_draft, TickSettles}
use Rattle.sn_tick.proofs.Calm.{first_of, second_of, none_some, sent_found, resent_found, retried_found, one_more, sent_rests, resent_rests, sent_calm, resent_calm, retried_calm, calm_alike, calm_asleep, by_unserved, by_rest, by_empty, ends}
use Rattle.step_laws.proofs.Expiring.{never-expiry}
use Rattle.step_laws.proofs.Remaining.{left-none, next_left, opens, closed, named_set, registered}

-- ---- Delivery

-- with the client nothing is due after the draft
abbrev Settled : Peer → Session → List Put → List Timer → Drafted → Type 0
Settled peer s pending timers e =
    (b : Option Addr) → due_session peer.moment (left e.acks pending) (timer_of peer.client (timers_after timers e.local)) b (Some (fold applied s e.changes)) ≡ None

-- the draft before Delivery leads to the session r, in which no exchange is open when nothing waits
record Before (peer : Peer) (s : Session) (timers : List Timer) (r : Session) (d : Drafted) : Type 0 where
  so_far : fold applied s d.changes ≡ r
  presence : r.presence ≡ s.presence
  duration : r.duration ≡ s.duration
  topics : r.topics ≡ s.topics
  none_open : open_exchange r [] [] ≡ None
  calm : is_overdue peer.moment s (timer_of peer.client (timers_after timers d.local)) ≡ false

settled_by : (now : ℕ) (m n : List Put) (o p : Option Timer) (r t : Session) (b : Option Addr) → m ≡ n → o ≡ p → r ≡ t
    → due_session now n p b (Some t) ≡ None → due_session now m o b (Some r) ≡ None
settled_by now m n o p r t b e f g h =
    ap (λ (xs : List Put). due_session now xs o b (Some r)) e
    ∙ ap (λ (x : Option Timer). due_session now n x b (Some r)) f
    ∙ ap (λ (x : Session). due_session now n p b (Some x)) g
    ∙ h

positive : (n : ℕ) → (n == 0) ≡ false → nat_lt 0 n ≡ true
positive n e = grind (arith, nat_tests)

module _ (predefined : Entries) (peer : Peer) (s : Session) (pending : List Put) (timers : List Timer) where
  one_change : (changes : List SessionOp) (r : Session) (change : SessionOp) → fold applied s changes ≡ r → fold applied s (changes ++ change ∷ []) ≡ applied r change
  one_change changes r change e = fold-append applied s changes (change ∷ []) ∙ ap (λ (t : Session). applied t change) e

  -- an exchange that begins is open, and its frame was just sent
  begun_settles : (d : Drafted) (r : Session) (put : Put) (rest : List Put) (phase : Phase) (frame : Frame)
      → fold applied s d.changes ≡ r → r.presence ≡ s.presence → r.duration ≡ s.duration
      → is_overdue peer.moment s (timer_of peer.client (timers_after timers d.local)) ≡ false
      → left d.acks pending ≡ put ∷ rest
      → is_open_in (record r { outbound = Some (record { origin = put.origin; seq = put.seq; msg_id = s.next_id; phase = phase }); next_id = next_after s.next_id }) phase (Some put) ≡ true
      → Settled peer s pending timers (exchange_begun peer s put phase frame d)
  begun_settles d r put rest phase frame so_far presence duration calm waits opened b =
      let x : Exchange = record { origin = put.origin; seq = put.seq; msg_id = s.next_id; phase = phase } in
      let t : Session = record r { outbound = Some x; next_id = next_after s.next_id } in
      let o : Option Timer = timer_of peer.client (timers_after timers d.local) in
      settled_by peer.moment (left d.acks pending) (put ∷ rest)
      (timer_of peer.client (timers_after timers (d.local ++ Sent peer.client peer.moment ∷ []))) (Some (sent_at peer.client peer.moment o))
      (fold applied s (d.changes ++ Outbound (Some x) (next_after s.next_id) ∷ [])) t b
      waits
      (ap (timer_of peer.client) (one_more timers d.local (Sent peer.client peer.moment)) ∙ sent_found peer.client peer.moment (timers_after timers d.local) o)
      (one_change d.changes r (Outbound (Some x) (next_after s.next_id)) so_far)
      (ends peer.moment t (put ∷ rest) (Some (sent_at peer.client peer.moment o)) b
      (sent_calm peer.moment peer.client t o (calm_alike peer.moment t s o presence duration calm))
      (by_rest peer.moment t (put ∷ rest) (Some (sent_at peer.client peer.moment o)) b x (opens t put rest x refl refl opened) (λ a. sent_rests peer.moment a peer.client o)))

  -- with nothing left a client that is Awake falls asleep, and with another nothing is due
  none_at : (d : Drafted) (r : Session) → Before peer s timers r d → left d.acks pending ≡ [] → (awake : Bool) → is_awake s.presence ≡ awake
      → Settled peer s pending timers (if awake then sent peer.address frames.PingResp (changed (SetPresence Asleep s.duration) d) else d)
  none_at d r before waits true is b =
      let t : Session = record r { presence = Asleep; duration = s.duration } in
      let o : Option Timer = timer_of peer.client (timers_after timers d.local) in
      settled_by peer.moment (left d.acks pending) [] o o (fold applied s (d.changes ++ SetPresence Asleep s.duration ∷ [])) t b
      waits refl (one_change d.changes r (SetPresence Asleep s.duration) before.so_far)
      (ends peer.moment t [] o b (calm_asleep peer.moment r s o is before.calm) (by_unserved peer.moment t [] o b refl))
  none_at d r before waits false is b =
      let o : Option Timer = timer_of peer.client (timers_after timers d.local) in
      settled_by peer.moment (left d.acks pending) [] o o (fold applied s d.changes) r b
      waits refl before.so_far
      (ends peer.moment r [] o b (calm_alike peer.moment r s o before.presence before.duration before.calm)
      (by_empty peer.moment r o b before.none_open (ap is_awake before.presence ∙ is)))

  -- what is known where Delivery comes to a message
  record At (r : Session) (put : Put) (rest : List Put) (d : Drafted) : Type 0 where
    before : Before peer s timers r d
    waits : left d.acks pending ≡ put ∷ rest
    apart : AreNamedApart (put ∷ rest)
    later : (e : Drafted) → Before peer s timers r e → left e.acks pending ≡ rest → Settled peer s pending timers (deliver predefined peer s rest e)

  -- a message that is done with
  acked_settles : (r : Session) (put : Put) (rest : List Put) (d : Drafted) → At r put rest d → Settled peer s pending timers (deliver predefined peer s rest (acked (name_of put) d))
  acked_settles r put rest d at =
      at.later (acked (name_of put) d)
      (record {
        so_far = at.before.so_far;
        presence = at.before.presence;
        duration = at.before.duration;
        topics = at.before.topics;
        none_open = at.before.none_open;
        calm = at.before.calm;
      })
      (next_left d.acks pending put rest at.apart at.waits)

  -- a message whose topic needs registering
  told_settles : (r : Session) (put : Put) (rest : List Put) (d : Drafted) → At r put rest d → (entry : Option TopicEntry) (free : Option ℕ)
      → topic_named put.topic s.topics ≡ entry → free_id s.topics ≡ free
      → Settled peer s pending timers (and_then (deliver predefined peer s rest) (register_first peer s put (entry_or_fresh put.topic entry free) d))
  told_settles r put rest d at (Some entry) free named is_free =
      begun_settles d r put rest Registering (frames.Register entry.id s.next_id put.topic) at.before.so_far at.before.presence at.before.duration at.before.calm at.waits
      (ap (λ topics. is_some (topic_named put.topic topics)) at.before.topics ∙ ap is_some named)
  told_settles r put rest d at None None named is_free = acked_settles r put rest d at
  told_settles r put rest d at None (Some id) named is_free =
      begun_settles (changed (Register id put.topic false) d) (session_changed r (Register id put.topic false)) put rest Registering (frames.Register id s.next_id put.topic)
      (one_change d.changes r (Register id put.topic false) at.before.so_far ∙ registered r id put.topic (ap free_id at.before.topics ∙ is_free))
      at.before.presence at.before.duration at.before.calm at.waits
      (named_set (record { id = id; name = put.topic; known = false }) r.topics)

  -- a message whose topic has a form
  form_settles : (r : Session) (put : Put) (rest : List Put) (d : Drafted) → At r put rest d → (form : Form) (zero : Bool) → (put.qos == 0) ≡ zero
      → Settled peer s pending timers (and_then (deliver predefined peer s rest)
      (if zero then (false, acked (name_of put) (sent peer.address (publication false put 0 form) d)) else (true, exchange_begun peer s put Published (publication false put s.next_id form) d)))
  form_settles r put rest d at form true is =
      acked_settles r put rest (sent peer.address (publication false put 0 form) d)
      (record {
        before = record {
          so_far = at.before.so_far;
          presence = at.before.presence;
          duration = at.before.duration;
          topics = at.before.topics;
          none_open = at.before.none_open;
          calm = at.before.calm;
        };
        waits = at.waits;
        apart = at.apart;
        later = at.later;
      })
  form_settles r put rest d at form false is =
      begun_settles d r put rest Published (publication false put s.next_id form) at.before.so_far at.before.presence at.before.duration at.before.calm at.waits (positive put.qos is)

  one_settles : (r : Session) (put : Put) (rest : List Put) (d : Drafted) → At r put rest d → (form : Option Form)
      → Settled peer s pending timers (and_then (deliver predefined peer s rest) (deliver_by peer s put form d))
  one_settles r put rest d at None = told_settles r put rest d at (topic_named put.topic s.topics) (free_id s.topics) refl refl
  one_settles r put rest d at (Some form) = form_settles r put rest d at form (put.qos == 0) refl

  deliver_settles : (rest : List Put) (d : Drafted) (r : Session) → Before peer s timers r d → left d.acks pending ≡ rest → AreNamedApart rest
      → Settled peer s pending timers (deliver predefined peer s rest d)
  deliver_settles [] d r before waits apart = none_at d r before waits (is_awake s.presence) refl
  deliver_settles (put ∷ rest) d r before waits apart =
      one_settles r put rest d
      (record { before = before; waits = waits; apart = apart; later = λ e then_before then_waits. deliver_settles rest e r then_before then_waits apart.1 })
      (form_of predefined s put.topic)

  -- Delivery of all that wait
  all_settle : (d : Drafted) (r : Session) → d.acks ≡ [] → Before peer s timers r d → AreNamedApart pending → Settled peer s pending timers (deliver_left predefined peer s pending d)
  all_settle d r none before apart =
      let all : left d.acks pending ≡ pending = ap (λ acks. left acks pending) none ∙ left-none pending in
      deliver_settles (left d.acks pending) d r before refl (subst AreNamedApart (sym all) apart)

-- ---- Resend

-- a draft that changes nothing and acknowledges nothing
abbrev plain : List Posted → Option Posted → List NewPut → ℕ → List Send → List LocalChange → Drafted
plain handed retain puts moment sends local = record { changes = []; acks = []; handed = handed; retain = retain; puts = puts; expires = moment; sends = sends; local = local }

to_plain : (d : Drafted) → d.changes ≡ [] → d.acks ≡ [] → d ≡ plain d.handed d.retain d.puts d.expires d.sends d.local
to_plain d h k = ap (λ (changes : List SessionOp). record d { changes = changes }) h ∙ ap (λ (acks : List (ℕ × ℕ)). record d { changes = []; acks = acks }) k

module _ (predefined : Entries) (peer : Peer) (s : Session) (pending : List Put) (timers : List Timer) (x : Exchange) (handed : List Posted) (retain : Option Posted) (puts : List NewPut) (moment : ℕ) (sends : List Send) (local : List LocalChange)
    (is_open : open_exchange s [] pending ≡ Some x) (calm : is_overdue peer.moment s (timer_of peer.client (timers_after timers local)) ≡ false) (apart : AreNamedApart pending) where
  -- a frame that is sent again was just sent
  again_settles : (frame : Frame) → Settled peer s pending timers (moved (Resent peer.client peer.moment) (sent peer.address frame (plain handed retain puts moment sends local)))
  again_settles frame b =
      let o : Option Timer = timer_of peer.client (timers_after timers local) in
      settled_by peer.moment (left [] pending) pending
      (timer_of peer.client (timers_after timers (local ++ Resent peer.client peer.moment ∷ []))) (Some (resent_at peer.client peer.moment o)) s s b
      (left-none pending)
      (ap (timer_of peer.client) (one_more timers local (Resent peer.client peer.moment)) ∙ resent_found peer.client peer.moment (timers_after timers local) o)
      refl
      (ends peer.moment s pending (Some (resent_at peer.client peer.moment o)) b (resent_calm peer.moment peer.client s o calm)
      (by_rest peer.moment s pending (Some (resent_at peer.client peer.moment o)) b x is_open (λ a. resent_rests peer.moment a peer.client o)))

  -- an exchange that ends gives way to Delivery
  given_settles : Settled peer s pending timers (and_then (deliver_left predefined peer s pending) (given_up s (plain handed retain puts moment sends local)))
  given_settles =
      all_settle predefined peer s pending timers (changed (Outbound None s.next_id) (plain handed retain puts moment sends local)) (record s { outbound = None; next_id = s.next_id }) refl
      (record { so_far = refl; presence = refl; duration = refl; topics = refl; none_open = refl; calm = calm }) apart

  by_entry : (put : Put) (msg_id : ℕ) (entry : Option TopicEntry)
      → Settled peer s pending timers (and_then (deliver_left predefined peer s pending) (register_by peer s put msg_id entry (plain handed retain puts moment sends local)))
  by_entry put msg_id None = given_settles
  by_entry put msg_id (Some entry) = again_settles (frames.Register entry.id msg_id put.topic)

  by_form : (put : Put) (msg_id : ℕ) (form : Option Form)
      → Settled peer s pending timers (and_then (deliver_left predefined peer s pending) (publish_by peer s put msg_id form (plain handed retain puts moment sends local)))
  by_form put msg_id None = given_settles
  by_form put msg_id (Some form) = again_settles (publication true put msg_id form)

  in_phase : (msg_id : ℕ) (phase : Phase) (put : Option Put)
      → Settled peer s pending timers (and_then (deliver_left predefined peer s pending) (resend_in predefined peer s msg_id phase put (plain handed retain puts moment sends local)))
  in_phase msg_id Registering None = given_settles
  in_phase msg_id Registering (Some put) = by_entry put msg_id (topic_named put.topic s.topics)
  in_phase msg_id Published None = given_settles
  in_phase msg_id Published (Some put) = by_form put msg_id (form_again predefined s put.topic)
  in_phase msg_id Released put = again_settles (frames.PubRel msg_id)

  resend_settles : Settled peer s pending timers (resend_if predefined peer s pending (open_exchange s [] pending) (plain handed retain puts moment sends local))
  resend_settles =
      subst (λ (o : Option Exchange). Settled peer s pending timers (resend_if predefined peer s pending o (plain handed retain puts moment sends local))) (sym is_open)
      (in_phase x.msg_id x.phase (put_left [] pending (message_of x)))

-- ---- what was due

module _ (now : ℕ) (s : Session) (pending : List Put) (o : Option Timer) where
  -- what is known where messages are due
  record ToDeliver : Type 0 where
    calm : is_overdue now s o ≡ false
    served : is_served s.presence ≡ true
    none_open : open_exchange s [] pending ≡ None

  -- what is known where a frame is due again
  record ToRetry : Type 0 where
    calm : is_overdue now s o ≡ false
    exchange : Exchange
    is_open : open_exchange s [] pending ≡ Some exchange

  no_delivery : (a to : Addr) (late last : Bool) → ¬ ((if late then (if last then Some Loss else Some (Retry a)) else None) ≡ Some (Delivery to))
  no_delivery a to true true e = cc
  no_delivery a to true false e = cc
  no_delivery a to false last e = cc

  no_exchange_delivery : (a to : Addr) (t : Option Timer) → ¬ (due_exchange now a t ≡ Some (Delivery to))
  no_exchange_delivery a to None e = cc
  no_exchange_delivery a to (Some t) e = no_delivery a to (nat_le 10 (elapsed now t.sent)) (nat_le 4 t.tries) e

  no_retry : (a to : Addr) (b : Bool) → ¬ ((if b then Some (Delivery a) else None) ≡ Some (Retry to))
  no_retry a to true e = cc
  no_retry a to false e = cc

  none_is_open : (a to : Addr) (x : Option Exchange) → due_by now s pending a o x ≡ Some (Delivery to) → x ≡ None
  none_is_open a to None e = refl
  none_is_open a to (Some x) e = absurd (no_exchange_delivery a to o e)

  one_is_open : (a to : Addr) (x : Option Exchange) → due_by now s pending a o x ≡ Some (Retry to) → (y : Exchange) × (x ≡ Some y)
  one_is_open a to None e = absurd (no_retry a to (is_awake s.presence || nat_lt 0 (length pending)) e)
  one_is_open a to (Some x) e = (x, refl)

  to_deliver_at : (a : Option Addr) (to : Addr) → is_overdue now s o ≡ false → due_at now s pending o a ≡ Some (Delivery to) → ToDeliver
  to_deliver_at None to calm e = absurd (none_some (Delivery to) e)
  to_deliver_at (Some a) to calm e =
      let found = first_of (is_served s.presence) (due_by now s pending a o (open_exchange s [] pending)) None (Some (Delivery to)) (none_some (Delivery to)) e in
      record { calm = calm; served = found.0; none_open = none_is_open a to (open_exchange s [] pending) found.1 }

  to_deliver : (a : Option Addr) (to : Addr) → due_session now pending o a (Some s) ≡ Some (Delivery to) → ToDeliver
  to_deliver a to e =
      let found = second_of (is_overdue now s o) (Some Loss) (due_at now s pending o a) (Some (Delivery to)) (λ (is : Some Loss ≡ Some (Delivery to)). cc) e in
      to_deliver_at a to found.0 found.1

  to_retry_at : (a : Option Addr) (to : Addr) → is_overdue now s o ≡ false → due_at now s pending o a ≡ Some (Retry to) → ToRetry
  to_retry_at None to calm e = absurd (none_some (Retry to) e)
  to_retry_at (Some a) to calm e =
      let found = first_of (is_served s.presence) (due_by now s pending a o (open_exchange s [] pending)) None (Some (Retry to)) (none_some (Retry to)) e in
      let one = one_is_open a to (open_exchange s [] pending) found.1 in
      record { calm = calm; exchange = one.0; is_open = one.1 }

  to_retry : (a : Option Addr) (to : Addr) → due_session now pending o a (Some s) ≡ Some (Retry to) → ToRetry
  to_retry a to e =
      let found = second_of (is_overdue now s o) (Some Loss) (due_at now s pending o a) (Some (Retry to)) (λ (is : Some Loss ≡ Some (Retry to)). cc) e in
      to_retry_at a to found.0 found.1

-- ---- a tick

-- with a lost client nothing is due
lost_rests : (now duration : ℕ) (s : Session) (pending : List Put) (o : Option Timer) (b : Option Addr)
    → due_session now pending o b (Some (record s { presence = Lost; duration = duration })) ≡ None
lost_rests now duration s pending None None = refl
lost_rests now duration s pending None (Some a) = refl
lost_rests now duration s pending (Some t) None = refl
lost_rests now duration s pending (Some t) (Some a) = refl

module _ (predefined : Entries) (seen : Seen) (now : ℕ) (c : List ℕ) (timers : List Timer) (a b : Option Addr) (handed : List Posted) (retain : Option Posted) (puts : List NewPut) (moment : ℕ) (sends : List Send) (local : List LocalChange)
    (apart : AreNamedApart (seen.of c).pending) where
  abbrev session : Session
  session = session_of seen c

  abbrev waiting : List Put
  waiting = (seen.of c).pending

  abbrev timer : Option Timer
  timer = timer_of c (timers_after timers local)

  delivery_settles : (to : Addr) → ToDeliver now session waiting timer → due_after now c session waiting timers b (due_draft predefined seen now c (plain handed retain puts moment sends local) (Delivery to)) ≡ None
  delivery_settles to h =
      subst (λ t. Settled (record { address = to; client = c; moment = now }) session waiting timers
      (if t then deliver_left predefined (record { address = to; client = c; moment = now }) session waiting (plain handed retain puts moment sends local) else plain handed retain puts moment sends local))
      (sym (and_from (is_served session.presence) (is_none (open_exchange session [] waiting)) h.served (ap is_none h.none_open)))
      (all_settle predefined (record { address = to; client = c; moment = now }) session waiting timers (plain handed retain puts moment sends local) session refl
      (record { so_far = refl; presence = refl; duration = refl; topics = refl; none_open = closed session waiting h.none_open; calm = h.calm }) apart)
      b

  retry_settles : (to : Addr) → ToRetry now session waiting timer → due_after now c session waiting timers b (due_draft predefined seen now c (plain handed retain puts moment sends local) (Retry to)) ≡ None
  retry_settles to h =
      let after : timer_of c (timers_after timers (local ++ Retried c now ∷ [])) ≡ Some (retried_at c now timer) =
      ap (timer_of c) (one_more timers local (Retried c now)) ∙ retried_found c now (timers_after timers local) timer in
      resend_settles predefined (record { address = to; client = c; moment = now }) session waiting timers h.exchange handed retain puts moment sends (local ++ Retried c now ∷ []) h.is_open
      (ap (is_overdue now session) after ∙ retried_calm now c session timer h.calm) apart
      b

  reason_settles : (reason : Due) → due_session now waiting timer a (Some session) ≡ Some reason → due_after now c session waiting timers b (due_draft predefined seen now c (plain handed retain puts moment sends local) reason) ≡ None
  reason_settles Expiry e = absurd (never-expiry now waiting timer a (Some session) e)
  reason_settles Loss e = lost_rests now session.duration session (left [] waiting) (timer_of c (timers_after timers (lost seen c session (plain handed retain puts moment sends local)).local)) b
  reason_settles (Retry to) e = retry_settles to (to_retry now session waiting timer a to e)
  reason_settles (Delivery to) e = delivery_settles to (to_deliver now session waiting timer a to e)

pub tick-settles : TickSettles
tick-settles predefined seen now c timers a b d reason apart no_changes no_acks due =
    subst (λ (e : Drafted). due_after now c (session_of seen c) (seen.of c).pending timers b (due_draft predefined seen now c e reason) ≡ None)
    (sym (to_plain d no_changes no_acks))
    (reason_settles predefined seen now c timers a b d.handed d.retain d.puts d.expires d.sends d.local apart reason
    (ap (λ (xs : List Put). due_session now xs (timer_of c (timers_after timers d.local)) a (Some (session_of seen c))) (sym (left-none (seen.of c).pending))
    ∙ subst (λ (e : Drafted). due_after now c (session_of seen c) (seen.of c).pending timers a e ≡ Some reason) (to_plain d no_changes no_acks) due))
