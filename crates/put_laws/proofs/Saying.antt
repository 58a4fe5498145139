-- PUBACK with code 0, and PUBREC, go out only where a message was put, or was before.
use Rattle.std.proofs.Common.{◌≡◌, ℕ, Bool, true, false, ◌+◌, ◌||◌, ◌&&◌, ◌==◌, ◌⊎◌, if◌then◌else◌, nat_le, is_none, List, [], ◌∷◌, ◌++◌, length, get_or, Option, Some, None, Contains, refl, sym, ap, ◌∙◌, subst, true≢false, inl, inr, arith}
use Rattle.std.proofs.lemmas.List.Elements.{Contains-push_cases}
use Rattle.sn_topic.specs.Table.{Entries}
use Rattle.sn_session.specs.declared.outbound.Phase.TheVariants.{Published}
use Rattle.sn_session.specs.declared.presence.Presence.TheVariants.{Asleep}
use Rattle.sn_session.specs.declared.session.Session.{Session}
use Rattle.sn_session.specs.declared.change.SessionOp.{SessionOp}
use Rattle.sn_session.specs.declared.change.SessionOp.TheVariants.{Presence}
use Rattle.sn_session.specs.Messages.{is_too_long}
use Rattle.sn_tables.specs.Received.{is_received, id_has_no_room}
use Rattle.sn_frame.specs.declared.flags.Flags.{Flags}
use Rattle.sn_frame.specs.declared.flags.Qos.{Qos}
use Rattle.sn_frame.specs.declared.flags.Qos.TheVariants as levels
use Rattle.sn_frame.specs.declared.flags.TopicIdType.{TopicIdType}
use Rattle.sn_frame.specs.declared.flags.TopicIdType.TheVariants as kinds
use Rattle.sn_frame.specs.declared.frame.Frame.{Frame}
use Rattle.sn_frame.specs.declared.frame.Frame.TheVariants as frames
use Rattle.sn_frame.specs.Bodies.{type_of, body_of}
use Rattle.sn_frame.specs.FlagBits.{qos_of, kind_of}
use Rattle.sn_frame.specs.Grammar.{short_form, long_form, spelling}
use Rattle.sn_frame.specs.Types.{octet_of}
use Rattle.rep_op.specs.declared.op.Put.{Put}
use Rattle.rep_op.specs.Orders.{name_of}
use Rattle.sn_local.specs.declared.config.Addr.{Addr}
use Rattle.sn_local.specs.declared.config.Send.{Send}
use Rattle.sn_local.specs.declared.local.LocalChange.TheVariants.{Heard}
use Rattle.sn_local.specs.Bindings.{client_at}
use Rattle.sn_local.specs.Lifetimes.{expires_at}
use Rattle.sn_local.specs.Locals.{Local}
use Rattle.sn_local.specs.Seen.{Seen}
use Rattle.sn_plan.specs.declared.plan.Plan.{Plan}
use Rattle.sn_plan.specs.Asking.{retain_asked}
use Rattle.sn_plan.specs.Bound.{session_of}
use Rattle.sn_plan.specs.Drafts.{Drafted, nothing, changed, changed_if, acked, lasting, sent, moved, session_after}
use Rattle.sn_plan.specs.Numbering.{planned}
use Rattle.sn_plan.specs.Own.{new_messages}
use Rattle.sn_plan.specs.Rows.{row_lasting, plan_for}
use Rattle.sn_plan.proofs.Made.{for_nobody}
use Rattle.sn_exchange.specs.declared.delivery.ToldId.{ToldId}
use Rattle.sn_exchange.specs.declared.form.Form.{Form}
use Rattle.sn_exchange.specs.declared.peer.Peer.{Peer}
use Rattle.sn_exchange.specs.Forms.{form_of, publication}
use Rattle.sn_exchange.specs.Exchanges.{left, open_exchange, is_served, is_awake}
use Rattle.sn_exchange.specs.Delivery.{Stop, id_to_tell, exchange_begun, register_first, deliver_by, none_left, and_then, deliver, deliver_left, deliver_if, then_deliver}
use Rattle.sn_exchange.specs.Following.{peer_at, deliver_next}
use Rattle.sn_publish.specs.declared.meaning.Meant.{Meant}
use Rattle.sn_publish.specs.declared.meaning.Meant.TheVariants.{Topic, Refused}
use Rattle.sn_publish.specs.Publishing.{topic_or_refused, topic_meant, within_limit, publication_meant, publish_meant, publish}
use Rattle.sn_publish.specs.Recipients.{puts_for}
use Rattle.sn_deliver.specs.Serving.{publish_of, publish_in_at}
use Rattle.sn_deliver.specs.Steps.{step}
use Rattle.put_laws.proofs.Acked.{none-there, plan-sends}
use Rattle.put_laws.specs.Puts.{puts_at, puts_bound, puts_by_level, IsReplyTo, IsPublished, HasReceived}
use Rattle.put_laws.proofs.Putting.{step-messages}

-- ---- octets of frames

first : List ℕ → ℕ
first [] = 0
first (x ∷ xs) = x

second : List ℕ → ℕ
second [] = 0
second (x ∷ xs) = first xs

other_type : (b : Bool) (kind n k : ℕ) (body rest : List ℕ) → (kind ≡ k → ⊥) → (1 ≡ n → ⊥) → (if b then short_form kind body else long_form kind body) ≡ n ∷ k ∷ rest → ⊥
unfolding first second
other_type true kind n k body rest other long e = other (ap second e)
other_type false kind n k body rest other long e = long (ap first e)

-- the octets are of another type than k
abbrev IsOther : ℕ → ℕ → Send → Type 0
IsOther n k m = (rest : List ℕ) → m.bytes ≡ n ∷ k ∷ rest → ⊥

other_frame : (f : Frame) (n k : ℕ) (rest : List ℕ) → (octet_of (type_of f) ≡ k → ⊥) → (1 ≡ n → ⊥) → spelling f ≡ n ∷ k ∷ rest → ⊥
other_frame f n k rest other long e = other_type (nat_le (length (body_of f) + 2) 255) (octet_of (type_of f)) n k (body_of f) rest other long e

-- ---- what Delivery sends

module _ (n k : ℕ) (long : 1 ≡ n → ⊥) (no_publish : 12 ≡ k → ⊥) (no_register : 10 ≡ k → ⊥) (no_ping_resp : 23 ≡ k → ⊥) where
  -- a frame of the one draft is a frame of the other, or of another type
  abbrev Adds : Drafted → Drafted → Type 0
  Adds d e = (m : Send) → Contains e.sends m → Contains d.sends m ⊎ IsOther n k m

  one_more : (sends : List Send) (to : Addr) (f : Frame) → (octet_of (type_of f) ≡ k → ⊥) → (m : Send) → Contains (sends ++ record { to = to; bytes = spelling f } ∷ []) m → Contains sends m ⊎ IsOther n k m
  one_more sends to f other m there =
      elim (Contains-push_cases sends (record { to = to; bytes = spelling f }) m there) [
        | inl before ↦ inl before
        | inr same ↦ inr (λ rest e. other_frame f n k rest other long (ap (λ (x : Send). x.bytes) same ∙ e))
      ]

  choose_adds : (b : Bool) (x y d : Drafted) → Adds d x → Adds d y → Adds d (if b then x else y)
  choose_adds true x y d h i = h
  choose_adds false x y d h i = i

  choose_stop : (b : Bool) (x y : Stop) (d : Drafted) → Adds d x.1 → Adds d y.1 → Adds d (if◌then◌else◌ {A = Stop} b x y).1
  choose_stop true x y d h i = h
  choose_stop false x y d h i = i

  after_change : (change : Option SessionOp) (d : Drafted) (m : Send) → Contains (changed_if change d).sends m ⊎ IsOther n k m → Contains d.sends m ⊎ IsOther n k m
  after_change None d m h = h
  after_change (Some change) d m h = h

  module _ (predefined : Entries) (peer : Peer) (s : Session) where
    none_adds : (d : Drafted) → Adds d (none_left peer s d)
    none_adds d = choose_adds (is_awake s.presence) (sent peer.address frames.PingResp (changed (Presence Asleep s.duration) d)) d d
        (λ m there. one_more d.sends peer.address frames.PingResp no_ping_resp m there) (λ m there. inl there)

    register_adds : (put : Put) (told : Option ToldId) (d : Drafted) → Adds d (register_first peer s put told d).1
    register_adds put None d = λ m there. inl there
    register_adds put (Some told) d = λ m there.
        after_change told.change d m (one_more (changed_if told.change d).sends peer.address (frames.Register told.id s.next_id put.topic) no_register m there)

    form_adds : (put : Put) (form : Option Form) (d : Drafted) → Adds d (deliver_by peer s put form d).1
    form_adds put None d = register_adds put (id_to_tell s put.topic) d
    form_adds put (Some form) d =
        choose_stop (put.qos == 0) (false, acked (name_of put) (sent peer.address (publication false put 0 form) d))
        (true, exchange_begun peer s put Published (publication false put s.next_id form) d) d
        (λ m there. one_more d.sends peer.address (publication false put 0 form) no_publish m there)
        (λ m there. one_more d.sends peer.address (publication false put s.next_id form) no_publish m there)

    stop_adds : (more : Drafted → Drafted) (stop : Stop) (d : Drafted) → ((e : Drafted) → Adds e (more e)) → Adds d stop.1 → Adds d (and_then more stop)
    stop_adds more (true, e) d later now = now
    stop_adds more (false, e) d later now = λ m there. elim (later e m there) [ inl before ↦ now m before | inr other ↦ inr other ]

    deliver_adds : (pending : List Put) (d : Drafted) → Adds d (deliver predefined peer s pending d)
    deliver_adds [] d = none_adds d
    deliver_adds (put ∷ rest) d =
        stop_adds (deliver predefined peer s rest) (deliver_by peer s put (form_of predefined s put.topic) d) d (λ e. deliver_adds rest e) (form_adds put (form_of predefined s put.topic) d)

    if_adds : (pending : List Put) (d : Drafted) → Adds d (deliver_if predefined peer s pending d)
    if_adds pending d = choose_adds (is_served s.presence && is_none (open_exchange s d.acks pending)) (deliver_left predefined peer s pending d) d d (deliver_adds (left d.acks pending) d) (λ m there. inl there)

  then_adds : (predefined : Entries) (peer : Peer) (s : Session) (pending : List Put) (d : Drafted) → Adds d (then_deliver predefined peer s pending d)
  then_adds predefined peer s pending d = if_adds predefined peer (session_after s d) pending d

-- ---- a refusal has a code above 0

abbrev IsAbove : Meant → Type 0
IsAbove (Refused code) = code ≡ 0 → ⊥
IsAbove (Topic name) = Unit {0}

named-above : (name : Option (List ℕ)) → IsAbove (topic_or_refused name)
named-above None = λ e. omega (arith, e)
named-above (Some name) = tt

topic-above : (predefined : Entries) (s : Session) (kind : TopicIdType) (topic : ℕ) → IsAbove (topic_meant predefined s kind topic)
topic-above predefined s kinds.Normal topic = named-above _
topic-above predefined s kinds.Predefined topic = named-above _
topic-above predefined s kinds.Short topic = named-above _
topic-above predefined s kinds.Reserved topic = λ e. omega (arith, e)

choose_above : (b : Bool) (x y : Meant) → IsAbove x → IsAbove y → IsAbove (if b then x else y)
choose_above true x y h i = h
choose_above false x y h i = i

limit-above : (body : List ℕ) (meant : Meant) → IsAbove meant → IsAbove (within_limit body meant)
limit-above body (Refused code) h = h
limit-above body (Topic name) h = choose_above (is_too_long body) (Refused 3) (Topic name) (λ e. omega (arith, e)) tt

-- ---- the answer of a row

one_sent : (x m : Send) → Contains ([] ++ x ∷ []) m → x ≡ m
one_sent x m there = elim (Contains-push_cases [] x m there) [ inl none ↦ absurd (none-there m none) | inr same ↦ same ]

module _ (seen : Seen) (asked : Bool) (a : Addr) (s : Session) (topic msg_id : ℕ) (body : List ℕ) where
  abbrev acked_at : ℕ → ℕ → ℕ → Send
  acked_at t m code = record { to = a; bytes = spelling (frames.PubAck t m code) }

  abbrev received_at : ℕ → Send
  received_at m = record { to = a; bytes = spelling (frames.PubRec m) }

  acked-once : (t m : ℕ) (meant : Meant) → IsAbove meant → Contains (publish_meant seen asked a s topic msg_id body levels.One meant).sends (acked_at t m 0) → (name : List ℕ) × (meant ≡ Topic name)
  acked-once t m (Refused code) above there =
      absurd (above (ap (λ (x : Send). get_or x.bytes 6 1) (one_sent (acked_at topic msg_id code) (acked_at t m 0) there)))
  acked-once t m (Topic name) above there = (name, refl)

  no_ack : (m code : ℕ) → acked_at topic msg_id code ≡ received_at m → ⊥
  no_ack m code e = omega (arith, ap (λ (x : Send). get_or x.bytes 0 1) e)

  received-either : (m : ℕ) (r f : Bool) (x y : Drafted) → Contains (if r then x else (if f then sent a (frames.PubAck topic msg_id 1) nothing else y)).sends (received_at m) → (r ≡ true) ⊎ (f ≡ false)
  received-either m true f x y there = inl refl
  received-either m false true x y there = absurd (no_ack m 1 (one_sent (acked_at topic msg_id 1) (received_at m) there))
  received-either m false false x y there = inr refl

  received-twice : (m : ℕ) (meant : Meant) → Contains (publish_meant seen asked a s topic msg_id body levels.Two meant).sends (received_at m)
      → (name : List ℕ) × (meant ≡ Topic name) × ((is_received msg_id s.received ≡ true) ⊎ (id_has_no_room msg_id s.received ≡ false))
  received-twice m (Refused code) there = absurd (no_ack m code (one_sent (acked_at topic msg_id code) (received_at m) there))
  received-twice m (Topic name) there = (name, refl, received-either m (is_received msg_id s.received) (id_has_no_room msg_id s.received) _ _ there)

-- ---- the answer of a step

for-sends : (g : ℕ) (seen : Seen) (d : Drafted) (client : Option (List ℕ)) (plan : Plan) → plan_for g seen d client ≡ Some plan → plan.sends ≡ d.sends
unfolding planned
for-sends g seen d None plan is = plan-sends g [] seen (for_nobody d) plan is
for-sends g seen d (Some c) plan is = plan-sends g c seen d plan is

module _ (g lifetime : ℕ) (predefined : Entries) (seen : Seen) (a : Addr) (bits topic msg_id : ℕ) (body : List ℕ) (now : ℕ) (plan : Plan)
    (y : Send) (n k : ℕ) (rest : List ℕ) (spelled : y.bytes ≡ n ∷ k ∷ rest)
    (long : 1 ≡ n → ⊥) (no_publish : 12 ≡ k → ⊥) (no_register : 10 ≡ k → ⊥) (no_ping_resp : 23 ≡ k → ⊥) (no_disconnect : 2 ≡ n → ⊥) where
  from-row : (bound : Option (List ℕ)) → deliver_next g predefined seen a now (row_lasting (expires_at lifetime now) (publish_of predefined seen a bound bits topic msg_id body now)) ≡ Some plan → Contains plan.sends y
      → (c : List ℕ) × (bound ≡ Some c) × Contains (publish predefined seen a (session_of seen c) bits topic msg_id body).sends y
  unfolding first
  from-row None is there =
      let away : Drafted = lasting (expires_at lifetime now) (sent a (frames.Disconnect None) nothing) in
      let same = one_sent (record { to = a; bytes = spelling (frames.Disconnect None) }) y (subst (λ (sends : List Send). Contains sends y) (for-sends g seen away None plan is) there) in
      absurd (no_disconnect (ap (λ (m : Send). first m.bytes) same ∙ ap first spelled))
  from-row (Some c) is there =
      let row : Drafted = lasting (expires_at lifetime now) (moved (Heard c now) (publish predefined seen a (session_of seen c) bits topic msg_id body)) in
      let whole : Drafted = then_deliver predefined (peer_at a c now) (session_of seen c) (seen.of c).pending row in
      elim (then_adds n k long no_publish no_register no_ping_resp predefined (peer_at a c now) (session_of seen c) (seen.of c).pending row y (subst (λ (sends : List Send). Contains sends y) (for-sends g seen whole (Some c) plan is) there)) [
        | inl here ↦ (c, refl, here)
        | inr other ↦ absurd (other rest spelled)
      ]

module _ (g lifetime : ℕ) (predefined : Entries) (seen : Seen) (local : Local) (a : Addr) (flags : Flags) (topic msg_id : ℕ) (body : List ℕ) (now : ℕ) (plan : Plan)
    (is : step g lifetime predefined seen local a (frames.Publish flags topic msg_id body) now ≡ Some plan) where
  abbrev bound : Option (List ℕ)
  bound = client_at a local.bindings

  abbrev meant : List ℕ → Meant
  meant c = publication_meant predefined (session_of seen c) flags.bits topic body

  by-level : (qos : Qos) → qos_of flags.bits ≡ qos → deliver_next g predefined seen a now (row_lasting (expires_at lifetime now) (publish_in_at predefined seen local a flags.bits topic msg_id body now qos)) ≡ Some plan
  unfolding step
  by-level qos q = subst (λ x. deliver_next g predefined seen a now (row_lasting (expires_at lifetime now) (publish_in_at predefined seen local a flags.bits topic msg_id body now x)) ≡ Some plan) q is

  -- the messages, where the client is bound and the publication is about the topic
  at-level : (qos : Qos) → qos_of flags.bits ≡ qos → (c name : List ℕ) → bound ≡ Some c → meant c ≡ Topic name → puts_by_level predefined seen bound flags.bits topic msg_id body qos ≡ puts_bound predefined seen bound flags.bits topic msg_id body
      → new_messages plan.ops ≡ puts_at seen (session_of seen c) msg_id body qos (Topic name)
  at-level qos q c name b m level =
      step-messages g lifetime predefined seen local a (frames.Publish flags topic msg_id body) now plan is
      ∙ (ap (λ x. puts_by_level predefined seen bound flags.bits topic msg_id body x) q
      ∙ (level
      ∙ (ap (λ x. puts_bound predefined seen x flags.bits topic msg_id body) b
      ∙ (ap (λ x. puts_at seen (session_of seen c) msg_id body x (meant c)) q
      ∙ ap (λ x. puts_at seen (session_of seen c) msg_id body qos x) m))))

  pub puback-put : (t m : ℕ) → qos_of flags.bits ≡ levels.One → IsReplyTo a (frames.PubAck t m 0) plan.sends → IsPublished predefined seen local a flags.bits topic 1 body (new_messages plan.ops)
  puback-put t m q there =
      let y : Send = record { to = a; bytes = spelling (frames.PubAck t m 0) } in
      let w = from-row g lifetime predefined seen a flags.bits topic msg_id body now plan y 7 13 _ refl (λ e. omega (arith, e)) (λ e. omega (arith, e)) (λ e. omega (arith, e)) (λ e. omega (arith, e)) (λ e. omega (arith, e)) bound (by-level levels.One q) there in
      let s : Session = session_of seen w.0 in
      let o = acked-once seen (retain_asked flags.bits) a s topic msg_id body t m (meant w.0) (limit-above body _ (topic-above predefined s (kind_of flags.bits) topic)) (subst (λ x. Contains (publish_meant seen (retain_asked flags.bits) a s topic msg_id body x (meant w.0)).sends y) q w.2) in
      (w.0, o.0, w.1, o.1, at-level levels.One q w.0 o.0 w.1 o.1 refl)

  pub pubrec-put : (m : ℕ) → qos_of flags.bits ≡ levels.Two → IsReplyTo a (frames.PubRec m) plan.sends → IsPublished predefined seen local a flags.bits topic 2 body (new_messages plan.ops) ⊎ HasReceived seen local a msg_id
  pubrec-put m q there =
      let y : Send = record { to = a; bytes = spelling (frames.PubRec m) } in
      let w = from-row g lifetime predefined seen a flags.bits topic msg_id body now plan y 4 15 _ refl (λ e. omega (arith, e)) (λ e. omega (arith, e)) (λ e. omega (arith, e)) (λ e. omega (arith, e)) (λ e. omega (arith, e)) bound (by-level levels.Two q) there in
      let s : Session = session_of seen w.0 in
      let o = received-twice seen (retain_asked flags.bits) a s topic msg_id body m (meant w.0) (subst (λ x. Contains (publish_meant seen (retain_asked flags.bits) a s topic msg_id body x (meant w.0)).sends y) q w.2) in
      let made = at-level levels.Two q w.0 o.0 w.1 o.1 refl in
      elim (is_received msg_id s.received) as (λ b. is_received msg_id s.received ≡ b → IsPublished predefined seen local a flags.bits topic 2 body (new_messages plan.ops) ⊎ HasReceived seen local a msg_id) [
        | true ↦ λ r. inr (w.0, w.1, r)
        | false ↦ λ r.
            elim o.2 [
              | inl t ↦ absurd (true≢false (sym t ∙ r))
              | inr f ↦
                  let new = ap (λ b. if b || id_has_no_room msg_id s.received then [] else puts_for seen o.0 2 body) r ∙ ap (λ b. if b then [] else puts_for seen o.0 2 body) f in
                  inl (w.0, o.0, w.1, o.1, made ∙ new)
            ]
      ] refl
