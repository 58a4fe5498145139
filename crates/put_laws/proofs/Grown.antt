-- What follows a row acknowledges nothing but what Delivery is done with, and takes no frame back.
use Rattle.std.proofs.Common.{◌≡◌, ℕ, Bool, true, false, cond, ◌&&◌, ◌==◌, ◌⊎◌, is_none, if◌then◌else◌, List, [], ◌∷◌, ◌++◌, filter, Option, Some, None, Contains, refl, sym, subst, inl, inr}
use Rattle.std.proofs.lemmas.Bool.{and_parts}
use Rattle.std.proofs.lemmas.List.Elements.{Contains-append_cases, Contains-append_left, Contains-append_right}
use Rattle.sn_topic.specs.Table.{Entries}
use Rattle.sn_session.specs.declared.outbound.Outbound.{Outbound as Exchange}
use Rattle.sn_session.specs.declared.outbound.Phase.{Phase}
use Rattle.sn_session.specs.declared.outbound.Phase.TheVariants.{Registering, Published, Released}
use Rattle.sn_session.specs.declared.presence.Presence.TheVariants.{Asleep}
use Rattle.sn_session.specs.declared.session.Session.{Session}
use Rattle.sn_session.specs.declared.change.SessionOp.{SessionOp}
use Rattle.sn_session.specs.declared.change.SessionOp.TheVariants.{Presence}
use Rattle.sn_tables.specs.declared.topics.TopicEntry.{TopicEntry}
use Rattle.sn_tables.specs.Topics.{topic_named}
use Rattle.sn_frame.specs.declared.frame.Frame.{Frame}
use Rattle.sn_frame.specs.declared.frame.Frame.TheVariants as frames
use Rattle.sn_frame.specs.Grammar.{spelling}
use Rattle.rep_op.specs.declared.op.Put.{Put}
use Rattle.rep_op.specs.Orders.{name_of}
use Rattle.sn_local.specs.declared.config.Send.{Send}
use Rattle.sn_plan.specs.declared.row.Follow.{Follow}
use Rattle.sn_plan.specs.declared.row.Follow.TheVariants as follows
use Rattle.sn_plan.specs.Drafts.{Drafted, changed, changed_if, acked, sent, session_after}
use Rattle.sn_exchange.specs.declared.delivery.ToldId.{ToldId}
use Rattle.sn_exchange.specs.declared.form.Form.{Form}
use Rattle.sn_exchange.specs.declared.peer.Peer.{Peer}
use Rattle.sn_exchange.specs.Forms.{form_of, form_again, publication}
use Rattle.sn_exchange.specs.Exchanges.{is_left, left, put_left, message_of, open_exchange, is_served, is_awake}
use Rattle.sn_exchange.specs.Delivery.{Stop, id_to_tell, exchange_begun, register_first, deliver_by, none_left, and_then, deliver, deliver_left, deliver_if}
use Rattle.sn_exchange.specs.Resending.{register_by, register_again, publish_by, publish_again, resend_in, resend_if}
use Rattle.sn_exchange.specs.Following.{followed_by}
use Rattle.step_laws.specs.Laws.{IsOfOneDone}
use Rattle.step_laws.proofs.Keeping.{delivery-keeps}

-- the frames of one draft are frames of the other
abbrev pub Stays : Drafted → Drafted → Type 0
Stays d e = (m : Send) → Contains d.sends m → Contains e.sends m

-- where Resend follows, the client is Active or Awake
abbrev pub IsServed : Session → Follow → Type 0
IsServed s follows.Nothing = Unit {0}
IsServed s follows.Delivery = Unit {0}
IsServed s follows.Resend = is_served s.presence ≡ true

pub to-served : (s : Session) (follow : Follow) → is_served s.presence ≡ true → IsServed s follow
to-served s follows.Nothing h = tt
to-served s follows.Delivery h = tt
to-served s follows.Resend h = h

-- and both acknowledge the same
abbrev Goes : Drafted → Drafted → Type 0
Goes d e = (e.acks ≡ d.acks) × Stays d e

more_sent : (d : Drafted) (more m : Send) → Contains d.sends m → Contains (d.sends ++ more ∷ []) m
more_sent d more m there = Contains-append_left d.sends (more ∷ []) m there

choose_stays : (b : Bool) (x y d : Drafted) → Stays d x → Stays d y → Stays d (if b then x else y)
choose_stays true x y d h k = h
choose_stays false x y d h k = k

choose_stop : (b : Bool) (x y : Stop) (d : Drafted) → Stays d x.1 → Stays d y.1 → Stays d (if◌then◌else◌ {A = Stop} b x y).1
choose_stop true x y d h k = h
choose_stop false x y d h k = k

changed_sends : (change : Option SessionOp) (d : Drafted) → (changed_if change d).sends ≡ d.sends
changed_sends None d = refl
changed_sends (Some change) d = refl

-- ---- of those that are left, each waits

kept_contains : {X : Type 0} (b : Bool) (x y : X) (rest : List X) → Contains (cond b (x ∷ rest) rest) y → Contains (x ∷ []) y ⊎ Contains rest y
kept_contains true x y rest there = Contains-append_cases (x ∷ []) rest y there
kept_contains false x y rest there = inr there

pub filter-contains : {X : Type 0} (test : X → Bool) (xs : List X) (y : X) → Contains (filter test xs) y → Contains xs y
filter-contains test [] y there = there
filter-contains test (x ∷ xs) y there =
    elim (kept_contains (test x) x y (filter test xs) there) [
      | inl first ↦ Contains-append_left (x ∷ []) xs y first
      | inr more ↦ Contains-append_right (x ∷ []) xs y (filter-contains test xs y more)
    ]

module _ (predefined : Entries) (peer : Peer) (s : Session) where
  -- ---- frames

  none_stays : (d : Drafted) → Stays d (none_left peer s d)
  none_stays d = choose_stays (is_awake s.presence) (sent peer.address frames.PingResp (changed (Presence Asleep s.duration) d)) d d
      (λ m there. more_sent d (record { to = peer.address; bytes = spelling frames.PingResp }) m there) (λ m there. there)

  register_stays : (put : Put) (told : Option ToldId) (d : Drafted) → Stays d (register_first peer s put told d).1
  register_stays put None d = λ m there. there
  register_stays put (Some told) d = λ m there.
      more_sent (changed_if told.change d) (record { to = peer.address; bytes = spelling (frames.Register told.id s.next_id put.topic) }) m
      (subst (λ (sends : List Send). Contains sends m) (sym (changed_sends told.change d)) there)

  form_stays : (put : Put) (form : Option Form) (d : Drafted) → Stays d (deliver_by peer s put form d).1
  form_stays put None d = register_stays put (id_to_tell s put.topic) d
  form_stays put (Some form) d =
      choose_stop (put.qos == 0) (false, acked (name_of put) (sent peer.address (publication false put 0 form) d))
      (true, exchange_begun peer s put Published (publication false put s.next_id form) d) d
      (λ m there. more_sent d (record { to = peer.address; bytes = spelling (publication false put 0 form) }) m there)
      (λ m there. more_sent d (record { to = peer.address; bytes = spelling (publication false put s.next_id form) }) m there)

  stop_stays : (more : Drafted → Drafted) (stop : Stop) (d : Drafted) → ((e : Drafted) → Stays e (more e)) → Stays d stop.1 → Stays d (and_then more stop)
  stop_stays more (true, e) d later first = first
  stop_stays more (false, e) d later first = λ m there. later e m (first m there)

  deliver_stays : (pending : List Put) (d : Drafted) → Stays d (deliver predefined peer s pending d)
  deliver_stays [] d = none_stays d
  deliver_stays (put ∷ rest) d =
      stop_stays (deliver predefined peer s rest) (deliver_by peer s put (form_of predefined s put.topic) d) d (λ e. deliver_stays rest e) (form_stays put (form_of predefined s put.topic) d)

  -- ---- Delivery

  -- what is acknowledged after it, and what was before
  abbrev Keeps : List Put → Drafted → Drafted → Type 0
  Keeps pending d e = (name : ℕ × ℕ) → Contains e.acks name → Contains d.acks name ⊎ IsOfOneDone predefined peer s pending e.sends name

  wider : (acks : List (ℕ × ℕ)) (pending : List Put) (sends : List Send) (name : ℕ × ℕ) → IsOfOneDone predefined peer s (left acks pending) sends name → IsOfOneDone predefined peer s pending sends name
  wider acks pending sends name (put, among, is, done) = (put, filter-contains (is_left acks) pending put among, is, done)

  left_keeps : (pending : List Put) (d : Drafted) → Keeps pending d (deliver_left predefined peer s pending d)
  left_keeps pending d name there =
      elim (delivery-keeps predefined peer s (left d.acks pending) d name there) [
        | inl before ↦ inl before
        | inr done ↦ inr (wider d.acks pending (deliver_left predefined peer s pending d).sends name done)
      ]

  left_stays : (pending : List Put) (d : Drafted) → Stays d (deliver_left predefined peer s pending d)
  left_stays pending d = deliver_stays (left d.acks pending) d

  -- and the client is Active or Awake, where more is
  abbrev Spends : List Put → Drafted → Drafted → Type 0
  Spends pending d e = (name : ℕ × ℕ) → Contains e.acks name → Contains d.acks name ⊎ ((is_served s.presence ≡ true) × IsOfOneDone predefined peer s pending e.sends name)

  by-served : is_served s.presence ≡ true → (pending : List Put) (d e : Drafted) → Keeps pending d e → Spends pending d e
  by-served served pending d e keeps name there =
      elim (keeps name there) [
        | inl before ↦ inl before
        | inr done ↦ inr (served, done)
      ]

  choose_spends : (b : Bool) (pending : List Put) (x d : Drafted) → (b ≡ true → Spends pending d x) → Spends pending d (if b then x else d)
  choose_spends true pending x d h = h refl
  choose_spends false pending x d h = λ name there. inl there

  if_spends : (pending : List Put) (d : Drafted) → Spends pending d (deliver_if predefined peer s pending d)
  if_spends pending d =
      choose_spends (is_served s.presence && is_none (open_exchange s d.acks pending)) pending (deliver_left predefined peer s pending d) d
      (λ both. by-served (and_parts (is_served s.presence) (is_none (open_exchange s d.acks pending)) both).0 pending d (deliver_left predefined peer s pending d) (left_keeps pending d))

  if_stays : (pending : List Put) (d : Drafted) → Stays d (deliver_if predefined peer s pending d)
  if_stays pending d = choose_stays (is_served s.presence && is_none (open_exchange s d.acks pending)) (deliver_left predefined peer s pending d) d d (left_stays pending d) (λ m there. there)

  -- ---- Resend

  again_goes : (frame : Frame) (d : Drafted) (m : Send) → Contains d.sends m → Contains (sent peer.address frame d).sends m
  again_goes frame d m there = more_sent d (record { to = peer.address; bytes = spelling frame }) m there

  register_by_goes : (put : Put) (msg_id : ℕ) (entry : Option TopicEntry) (d : Drafted) → Goes d (register_by peer s put msg_id entry d).1
  register_by_goes put msg_id None d = (refl, λ m there. there)
  register_by_goes put msg_id (Some entry) d = (refl, again_goes (frames.Register entry.id msg_id put.topic) d)

  register_goes : (msg_id : ℕ) (put : Option Put) (d : Drafted) → Goes d (register_again peer s msg_id put d).1
  register_goes msg_id None d = (refl, λ m there. there)
  register_goes msg_id (Some put) d = register_by_goes put msg_id (topic_named put.topic s.topics) d

  publish_by_goes : (put : Put) (msg_id : ℕ) (form : Option Form) (d : Drafted) → Goes d (publish_by peer s put msg_id form d).1
  publish_by_goes put msg_id None d = (refl, λ m there. there)
  publish_by_goes put msg_id (Some form) d = (refl, again_goes (publication true put msg_id form) d)

  publish_goes : (msg_id : ℕ) (put : Option Put) (d : Drafted) → Goes d (publish_again predefined peer s msg_id put d).1
  publish_goes msg_id None d = (refl, λ m there. there)
  publish_goes msg_id (Some put) d = publish_by_goes put msg_id (form_again predefined s put.topic) d

  resend_goes : (msg_id : ℕ) (phase : Phase) (put : Option Put) (d : Drafted) → Goes d (resend_in predefined peer s msg_id phase put d).1
  resend_goes msg_id Registering put d = register_goes msg_id put d
  resend_goes msg_id Published put d = publish_goes msg_id put d
  resend_goes msg_id Released put d = (refl, again_goes (frames.PubRel msg_id) d)

  kept_first : (pending : List Put) (d e f : Drafted) (name : ℕ × ℕ) → e.acks ≡ d.acks → Contains e.acks name ⊎ IsOfOneDone predefined peer s pending f.sends name
      → Contains d.acks name ⊎ IsOfOneDone predefined peer s pending f.sends name
  kept_first pending d e f name same (inl there) = inl (subst (λ (acks : List (ℕ × ℕ)). Contains acks name) same there)
  kept_first pending d e f name same (inr done) = inr done

  stop_keeps : (pending : List Put) (d : Drafted) (stop : Stop) → stop.1.acks ≡ d.acks → Keeps pending d (and_then (deliver_left predefined peer s pending) stop)
  stop_keeps pending d (true, e) same = λ name there. inl (subst (λ (acks : List (ℕ × ℕ)). Contains acks name) same there)
  stop_keeps pending d (false, e) same = λ name there.
      kept_first pending d e (deliver_left predefined peer s pending e) name same (left_keeps pending e name there)

  resend_spends : is_served s.presence ≡ true → (pending : List Put) (x : Option Exchange) (d : Drafted) → Spends pending d (resend_if predefined peer s pending x d)
  resend_spends served pending None d = if_spends pending d
  resend_spends served pending (Some x) d =
      let stop : Stop = resend_in predefined peer s x.msg_id x.phase (put_left d.acks pending (message_of x)) d in
      by-served served pending d (and_then (deliver_left predefined peer s pending) stop)
      (stop_keeps pending d stop (resend_goes x.msg_id x.phase (put_left d.acks pending (message_of x)) d).0)

  resend_stays : (pending : List Put) (x : Option Exchange) (d : Drafted) → Stays d (resend_if predefined peer s pending x d)
  resend_stays pending None d = if_stays pending d
  resend_stays pending (Some x) d =
      stop_stays (deliver_left predefined peer s pending) (resend_in predefined peer s x.msg_id x.phase (put_left d.acks pending (message_of x)) d) d (λ e. left_stays pending e)
      (resend_goes x.msg_id x.phase (put_left d.acks pending (message_of x)) d).1

-- ---- what follows a row

module _ (predefined : Entries) (peer : Peer) (s : Session) (pending : List Put) (d : Drafted) where
  pub follows-spend : (follow : Follow) → IsServed (session_after s d) follow → (name : ℕ × ℕ) → Contains (followed_by predefined peer s pending d follow).acks name
      → Contains d.acks name ⊎ ((is_served (session_after s d).presence ≡ true) × IsOfOneDone predefined peer (session_after s d) pending (followed_by predefined peer s pending d follow).sends name)
  follows-spend follows.Nothing served name there = inl there
  follows-spend follows.Delivery served name there = if_spends predefined peer (session_after s d) pending d name there
  follows-spend follows.Resend served name there = resend_spends predefined peer (session_after s d) served pending (open_exchange (session_after s d) d.acks pending) d name there

  pub follows-stay : (follow : Follow) → Stays d (followed_by predefined peer s pending d follow)
  follows-stay follows.Nothing = λ m there. there
  follows-stay follows.Delivery = if_stays predefined peer (session_after s d) pending d
  follows-stay follows.Resend = resend_stays predefined peer (session_after s d) pending (open_exchange (session_after s d) d.acks pending) d
