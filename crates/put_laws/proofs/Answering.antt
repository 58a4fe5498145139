-- PUBACK, PUBREC and REGACK acknowledge the message of the exchange that waits for them.
use Rattle.std.proofs.Common.{◌≡◌, ℕ, Bool, true, false, cond, ◌==◌, ◌&&◌, ◌⊎◌, if◌then◌else◌, List, [], ◌∷◌, Option, Some, None, IfSome, Contains, refl, sym, ap, true≢false, inl, inr, arith, eqb-true}
use Rattle.std.specs.Prelude.{find}
use Rattle.std.proofs.lemmas.Bool.{and_parts, eqb-false}
use Rattle.std.proofs.lemmas.List.Elements.{Contains-push, Contains-append_left, Contains-append_right}
use Rattle.sn_topic.specs.Table.{Entries}
use Rattle.sn_session.specs.declared.outbound.Outbound.{Outbound as Exchange}
use Rattle.sn_session.specs.declared.outbound.Phase.{Phase}
use Rattle.sn_session.specs.declared.outbound.Phase.TheVariants.{Registering, Published, Released}
use Rattle.sn_session.specs.declared.session.Session.{Session}
use Rattle.sn_tables.specs.declared.topics.TopicEntry.{TopicEntry}
use Rattle.sn_tables.specs.Topics.{topic_named}
use Rattle.sn_frame.specs.declared.frame.Frame.TheVariants as frames
use Rattle.rep_op.specs.declared.op.Put.{Put}
use Rattle.rep_op.specs.Orders.{name_of}
use Rattle.sn_local.specs.declared.config.Addr.{Addr}
use Rattle.sn_local.specs.Locals.{Local}
use Rattle.sn_local.specs.Seen.{Seen}
use Rattle.sn_plan.specs.Bound.{session_of}
use Rattle.sn_plan.specs.Drafts.{Drafted, nothing}
use Rattle.sn_exchange.specs.declared.peer.Peer.{Peer}
use Rattle.sn_exchange.specs.Exchanges.{same_name, message_of, open_exchange}
use Rattle.sn_exchange.specs.Following.{peer_at}
use Rattle.sn_deliver.specs.Acknowledging.{same_phase, if_awaits, awaiting, put_of_exchange, put_awaiting, done, entry_published, forgotten, puback_of, is_at_two, awaiting_pubrec, pubrec_again, pubrec_of, pubcomp_of, id_known, regack_of}
use Rattle.sn_deliver.specs.Serving.{ack_row}
use Rattle.put_laws.specs.Causes.{AnswersFor, IsRefusalCode, IsCause}
use Rattle.put_laws.proofs.Quiet.{QuietRow}
use Rattle.put_laws.proofs.Fitting.{AreCaused, FitsRow, none-caused, one-caused, choose-caused}

same_phase-true : (p q : Phase) → same_phase p q ≡ true → p ≡ q
same_phase-true Registering Registering h = refl
same_phase-true Registering Published h = absurd (true≢false (sym h))
same_phase-true Registering Released h = absurd (true≢false (sym h))
same_phase-true Published Registering h = absurd (true≢false (sym h))
same_phase-true Published Published h = refl
same_phase-true Published Released h = absurd (true≢false (sym h))
same_phase-true Released Registering h = absurd (true≢false (sym h))
same_phase-true Released Published h = absurd (true≢false (sym h))
same_phase-true Released Released h = refl

same_name-true : (a b : ℕ × ℕ) → same_name a b ≡ true → a ≡ b
same_name-true a b h =
    let parts = and_parts (a.0 == b.0) (a.1 == b.1) h in
    let first : a.0 ≡ b.0 = eqb-true a.0 b.0 parts.0 in
    let second : a.1 ≡ b.1 = eqb-true a.1 b.1 parts.1 in
    λ i. (first i, second i)

abbrev IsFound : (Put → Bool) → List Put → Put → Type 0
IsFound test pending put = Contains pending put × (test put ≡ true)

found-later : (test : Put → Bool) (put : Put) (rest : List Put) (o : Option Put) → IfSome o (IsFound test rest) → IfSome o (IsFound test (put ∷ rest))
found-later test put rest None h = tt
found-later test put rest (Some p) h = (Contains-append_right (put ∷ []) rest p h.0, h.1)

-- what a search finds is there, and meets the test
found-there : (test : Put → Bool) (pending : List Put) → IfSome (find test pending) (IsFound test pending)
found-there test [] = tt
found-there test (put ∷ rest) =
    elim (test put) as (λ b. test put ≡ b → IfSome {T = Put} (cond b (Some put) (find test rest)) (IsFound test (put ∷ rest))) [
      | true ↦ λ h. (Contains-append_left (put ∷ []) rest put (Contains-push [] put), h)
      | false ↦ λ _. found-later test put rest (find test rest) (found-there test rest)
    ] refl

-- a code that is neither 0 nor 1 refuses
refuses : (code : ℕ) → (code == 0) ≡ false → (code == 1) ≡ false → IsRefusalCode code
refuses code h k =
    let one = eqb-false code 0 h in
    let two = eqb-false code 1 k in
    omega (arith, one, two)

module _ (seen : Seen) (local : Local) (a : Addr) (c : List ℕ) where
  abbrev s : Session
  s = session_of seen c

  abbrev pending : List Put
  pending = (seen.of c).pending

  -- the open exchange waits for this
  abbrev IsAwaited : Phase → ℕ → Exchange → Type 0
  IsAwaited phase msg_id x = (open_exchange s [] pending ≡ Some x) × (x.phase ≡ phase) × (x.msg_id ≡ msg_id)

  awaits-open : (phase : Phase) (msg_id : ℕ) (o : Option Exchange) → open_exchange s [] pending ≡ o → IfSome (if_awaits phase msg_id o) (IsAwaited phase msg_id)
  awaits-open phase msg_id None e = tt
  awaits-open phase msg_id (Some x) e =
      elim (same_phase x.phase phase && (x.msg_id == msg_id)) as (λ b. (same_phase x.phase phase && (x.msg_id == msg_id)) ≡ b → IfSome {T = Exchange} (if b then Some x else None) (IsAwaited phase msg_id)) [
        | true ↦ λ h.
            let parts = and_parts (same_phase x.phase phase) (x.msg_id == msg_id) h in
            (e, same_phase-true x.phase phase parts.0, eqb-true x.msg_id msg_id parts.1)
        | false ↦ λ _. tt
      ] refl

  awaiting-open : (phase : Phase) (msg_id : ℕ) → IfSome (awaiting s pending phase msg_id) (IsAwaited phase msg_id)
  awaiting-open phase msg_id = awaits-open phase msg_id (open_exchange s [] pending) refl

  -- a message that waits, of the exchange that waits for this
  abbrev IsAnswered : Phase → ℕ → Put → Type 0
  IsAnswered phase msg_id put = Contains pending put × AnswersFor seen c phase msg_id put

  found-answered : (phase : Phase) (msg_id : ℕ) (x : Exchange) → IsAwaited phase msg_id x → (o : Option Put)
      → IfSome o (λ put. Contains pending put × (same_name (name_of put) (message_of x) ≡ true)) → IfSome o (IsAnswered phase msg_id)
  found-answered phase msg_id x is None h = tt
  found-answered phase msg_id x is (Some put) h = (h.0, (x, is.0, is.1, is.2, sym (same_name-true (name_of put) (message_of x) h.1)))

  put-answered : (phase : Phase) (msg_id : ℕ) (o : Option Exchange) → IfSome o (IsAwaited phase msg_id) → IfSome (put_of_exchange pending o) (IsAnswered phase msg_id)
  put-answered phase msg_id None h = tt
  put-answered phase msg_id (Some x) h =
      found-answered phase msg_id x h (put_of_exchange pending (Some x)) (found-there (λ put. same_name (name_of put) (message_of x)) pending)

  awaiting-answered : (phase : Phase) (msg_id : ℕ) → IfSome (put_awaiting s pending phase msg_id) (IsAnswered phase msg_id)
  awaiting-answered phase msg_id = put-answered phase msg_id (awaiting s pending phase msg_id) (awaiting-open phase msg_id)

  -- ---- PUBACK

  module _ (topic_id msg_id code : ℕ) where
    abbrev ByPubAck : Drafted → Type 0
    ByPubAck d = AreCaused seen (IsCause seen local a (frames.PubAck topic_id msg_id code)) c d

    done-puback : (put : Put) → IsAnswered Published msg_id put → ((code ≡ 0) × (put.qos ≡ 1)) ⊎ IsRefusalCode code → ByPubAck (done s put)
    done-puback put h why = one-caused seen (IsCause seen local a (frames.PubAck topic_id msg_id code)) c (done s put) put h.0 refl (h.1, why)

    none-puback : (d : Drafted) → d.acks ≡ [] → ByPubAck d
    none-puback d none = none-caused seen (IsCause seen local a (frames.PubAck topic_id msg_id code)) c d none

    either-puback : (b : Bool) (x y : Drafted) → (b ≡ true → ByPubAck x) → (b ≡ false → ByPubAck y) → ByPubAck (if b then x else y)
    either-puback b x y h k = choose-caused seen (IsCause seen local a (frames.PubAck topic_id msg_id code)) c b x y h k

    forgotten-puback : (put : Put) (entry : Option TopicEntry) → IsAnswered Published msg_id put → IsRefusalCode code → ByPubAck (forgotten s put entry)
    forgotten-puback put None h why = done-puback put h (inr why)
    forgotten-puback put (Some entry) h why = none-puback (forgotten s put (Some entry)) refl

    puback_of-caused : (p : Entries) (put : Option Put) → IfSome put (IsAnswered Published msg_id) → ByPubAck (puback_of p s code put)
    puback_of-caused p None h = none-puback nothing refl
    puback_of-caused p (Some put) h =
        either-puback (code == 0) _ _
        (λ zero. either-puback (put.qos == 1) _ _ (λ one. done-puback put h (inl (eqb-true code 0 zero, eqb-true put.qos 1 one))) (λ _. none-puback nothing refl))
        (λ not_zero. either-puback (code == 1) _ _ (λ _. none-puback nothing refl)
        (λ not_one. either-puback (code == 2) _ _
        (λ _. forgotten-puback put (entry_published p s put.topic) h (refuses code not_zero not_one))
        (λ _. done-puback put h (inr (refuses code not_zero not_one)))))

    pub puback-caused : (p : Entries) → ByPubAck (puback_of p s code (put_awaiting s pending Published msg_id))
    puback-caused p = puback_of-caused p (put_awaiting s pending Published msg_id) (awaiting-answered Published msg_id)

  -- ---- REGACK

  module _ (topic_id msg_id code : ℕ) where
    abbrev ByRegAck : Drafted → Type 0
    ByRegAck d = AreCaused seen (IsCause seen local a (frames.RegAck topic_id msg_id code)) c d

    none-regack : (d : Drafted) → d.acks ≡ [] → ByRegAck d
    none-regack d none = none-caused seen (IsCause seen local a (frames.RegAck topic_id msg_id code)) c d none

    either-regack : (b : Bool) (x y : Drafted) → (b ≡ true → ByRegAck x) → (b ≡ false → ByRegAck y) → ByRegAck (if b then x else y)
    either-regack b x y h k = choose-caused seen (IsCause seen local a (frames.RegAck topic_id msg_id code)) c b x y h k

    registered-regack : (entry : Option TopicEntry) → ByRegAck (id_known s entry)
    registered-regack None = none-regack (id_known s None) refl
    registered-regack (Some entry) = none-regack (id_known s (Some entry)) refl

    regack_of-caused : (put : Option Put) → IfSome put (IsAnswered Registering msg_id) → ByRegAck (regack_of s code put)
    regack_of-caused None h = none-regack nothing refl
    regack_of-caused (Some put) h =
        either-regack (code == 0) _ _ (λ _. registered-regack (topic_named put.topic s.topics))
        (λ not_zero. either-regack (code == 1) _ _ (λ _. none-regack nothing refl)
        (λ not_one. one-caused seen (IsCause seen local a (frames.RegAck topic_id msg_id code)) c (done s put) put h.0 refl (h.1, refuses code not_zero not_one)))

    pub regack-caused : ByRegAck (regack_of s code (put_awaiting s pending Registering msg_id))
    regack-caused = regack_of-caused (put_awaiting s pending Registering msg_id) (awaiting-answered Registering msg_id)

  -- ---- PUBREC

  module _ (msg_id : ℕ) where
    abbrev ByPubRec : Drafted → Type 0
    ByPubRec d = AreCaused seen (IsCause seen local a (frames.PubRec msg_id)) c d

    -- the exchange of a message at quality of service 2, which waits for this
    abbrev IsOfTwo : Exchange → Type 0
    IsOfTwo x = (put : Put) × IsAnswered Published msg_id put × (message_of x ≡ name_of put) × (put.qos ≡ 2)

    found-two : (x : Exchange) → IsAwaited Published msg_id x → (o : Option Put) → IfSome o (λ put. Contains pending put × (same_name (name_of put) (message_of x) ≡ true))
        → IfSome {T = Exchange} (if is_at_two o then Some x else None) IsOfTwo
    found-two x is None h = tt
    found-two x is (Some put) h =
        elim (put.qos == 2) as (λ b. (put.qos == 2) ≡ b → IfSome {T = Exchange} (if b then Some x else None) IsOfTwo) [
          | true ↦ λ two.
              let same : message_of x ≡ name_of put = sym (same_name-true (name_of put) (message_of x) h.1) in
              (put, (h.0, (x, is.0, is.1, is.2, same)), same, eqb-true put.qos 2 two)
          | false ↦ λ _. tt
        ] refl

    exchange-two : (o : Option Exchange) → IfSome o (IsAwaited Published msg_id) → IfSome {T = Exchange} (if is_at_two (put_of_exchange pending o) then o else None) IsOfTwo
    exchange-two None h = tt
    exchange-two (Some x) h = found-two x h (put_of_exchange pending (Some x)) (found-there (λ put. same_name (name_of put) (message_of x)) pending)

    none-pubrec : (peer : Peer) (x : Option Exchange) → ByPubRec (pubrec_again peer msg_id x)
    none-pubrec peer None = none-caused seen (IsCause seen local a (frames.PubRec msg_id)) c (pubrec_again peer msg_id None) refl
    none-pubrec peer (Some x) = none-caused seen (IsCause seen local a (frames.PubRec msg_id)) c (pubrec_again peer msg_id (Some x)) refl

    pubrec_of-caused : (peer : Peer) (x : Option Exchange) → IfSome x IsOfTwo → ByPubRec (pubrec_of peer s pending msg_id x)
    pubrec_of-caused peer None h = none-pubrec peer (awaiting s pending Released msg_id)
    pubrec_of-caused peer (Some x) h =
        one-caused seen (IsCause seen local a (frames.PubRec msg_id)) c (pubrec_of peer s pending msg_id (Some x)) h.0 h.1.0 (ap (λ (name : ℕ × ℕ). name ∷ []) h.2) (h.1.1, h.3)

    pub pubrec-caused : (peer : Peer) → ByPubRec (pubrec_of peer s pending msg_id (awaiting_pubrec s pending msg_id))
    pubrec-caused peer = pubrec_of-caused peer (awaiting_pubrec s pending msg_id) (exchange-two (awaiting s pending Published msg_id) (awaiting-open Published msg_id))

  pub pubcomp-acks : (x : Option Exchange) → (pubcomp_of s x).acks ≡ []
  pubcomp-acks None = refl
  pubcomp-acks (Some x) = refl

-- ---- as rows

module _ (p : Entries) (seen : Seen) (local : Local) (a : Addr) (now : ℕ) where
  pub puback-fits : (topic_id msg_id code : ℕ) (bound : Option (List ℕ))
      → FitsRow seen (IsCause seen local a (frames.PubAck topic_id msg_id code)) bound (ack_row p seen a bound (frames.PubAck topic_id msg_id code) now)
  puback-fits topic_id msg_id code None = tt
  puback-fits topic_id msg_id code (Some c) = (refl, puback-caused seen local a c topic_id msg_id code p, tt)

  pub regack-fits : (topic_id msg_id code : ℕ) (bound : Option (List ℕ))
      → FitsRow seen (IsCause seen local a (frames.RegAck topic_id msg_id code)) bound (ack_row p seen a bound (frames.RegAck topic_id msg_id code) now)
  regack-fits topic_id msg_id code None = tt
  regack-fits topic_id msg_id code (Some c) = (refl, regack-caused seen local a c topic_id msg_id code, tt)

  pub pubrec-fits : (msg_id : ℕ) (bound : Option (List ℕ)) → FitsRow seen (IsCause seen local a (frames.PubRec msg_id)) bound (ack_row p seen a bound (frames.PubRec msg_id) now)
  pubrec-fits msg_id None = tt
  pubrec-fits msg_id (Some c) = (refl, pubrec-caused seen local a c msg_id (peer_at a c now), tt)

  pub pubcomp-quiet : (msg_id : ℕ) (bound : Option (List ℕ)) → QuietRow seen bound (ack_row p seen a bound (frames.PubComp msg_id) now)
  pubcomp-quiet msg_id None = tt
  pubcomp-quiet msg_id (Some c) = (refl, pubcomp-acks seen local a c (awaiting (session_of seen c) (seen.of c).pending Released msg_id), tt)
