-- A session has received an id only by a change that brings it: a Take of a session that has it, or the id itself.
use Rattle.std.proofs.Common.{◌≡◌, ℕ, zero, suc, ◌+◌, ◌==◌, Bool, true, false, not, ◌||◌, ◌⊎◌, if◌then◌else◌, List, [], ◌∷◌, fold, Option, Some, None, unwrap_or, Contains, refl, sym, true≢false, Less, Equal, Greater, eqb-true, inl, inr}
use Rattle.std.specs.Ordering.{nat_cmp}
use Rattle.sn_tables.specs.Tables.{by_order, with_entry}
use Rattle.sn_tables.specs.Received.{is_received, with_received, without_received}
use Rattle.sn_session.specs.declared.session.Session.{Session}
use Rattle.sn_session.specs.declared.change.SessionOp.{SessionOp}
use Rattle.sn_session.specs.declared.change.SessionOp.TheVariants.{Take, Presence, Register, Subscribe, Unsubscribe, WillTopic, WillMsg, Received, Released, Outbound}
use Rattle.sn_session.specs.Session.{applied, is_full, session_changed, empty_session}
use Rattle.rep_op.specs.declared.op.Stamp.{Stamp}
use Rattle.rep_op.specs.declared.op.Op.{Op}
use Rattle.rep_op.specs.declared.op.Op.TheVariants.{Session as OfSession}
use Rattle.rep_op.specs.Sets.{operation_at}
use Rattle.rep_model.specs.Views.{visible, gapless, then_more, history_at, history, after_change, view}
use Rattle.sn_local.specs.Seen.{seen_of}
use Rattle.sn_plan.specs.Bound.{session_of as session_seen}
use Rattle.gw_node.proofs.Occurring.{operation_occurs}

-- the change makes the session have received the id
abbrev pub Brings : ℕ → SessionOp → Type 0
Brings id (Take taken) = is_received id taken.received ≡ true
Brings id (Received other) = other ≡ id
Brings id change = ⊥

-- the operations have a change of the client's session that brings the id
abbrev pub HasOne : List ℕ → ℕ → List Op → Type 0
HasOne c id ops = (stamp : Stamp) × (counter : ℕ) × (change : SessionOp) × Contains ops (OfSession c stamp counter change) × Brings id change

-- ---- a table of ids

either : (a b : Bool) (C : Type 0) → (a || b) ≡ true → (a ≡ true → C) → (b ≡ true → C) → C
either true b C h left right = left refl
either false b C h left right = right h

left_true : (a b : Bool) → a ≡ true → (a || b) ≡ true
left_true true b h = refl
left_true false b h = absurd (true≢false (sym h))

right_true : (a b : Bool) → b ≡ true → (a || b) ≡ true
right_true true b h = refl
right_true false b h = h

-- an id of a table with one more id is that one, or was there
added_or_there : (n id : ℕ) (ids : List ℕ) → is_received id (with_received n ids) ≡ true → (n ≡ id) ⊎ (is_received id ids ≡ true)
added_or_there n id [] h = either (n == id) false ((n ≡ id) ⊎ (is_received id [] ≡ true)) h (λ here. inl (eqb-true n id here)) (λ none. absurd (true≢false (sym none)))
added_or_there n id (a ∷ rest) h =
    elim (nat_cmp n a) as (λ o. is_received id (by_order o (n ∷ a ∷ rest) (n ∷ rest) (a ∷ with_entry nat_cmp n rest)) ≡ true → (n ≡ id) ⊎ (is_received id (a ∷ rest) ≡ true)) [
      | Less ↦ λ e. either (n == id) (is_received id (a ∷ rest)) ((n ≡ id) ⊎ (is_received id (a ∷ rest) ≡ true)) e (λ here. inl (eqb-true n id here)) (λ there. inr there)
      | Equal ↦ λ e. either (n == id) (is_received id rest) ((n ≡ id) ⊎ (is_received id (a ∷ rest) ≡ true)) e (λ here. inl (eqb-true n id here)) (λ there. inr (right_true (a == id) (is_received id rest) there))
      | Greater ↦ λ e. either (a == id) (is_received id (with_received n rest)) ((n ≡ id) ⊎ (is_received id (a ∷ rest) ≡ true)) e
          (λ here. inr (left_true (a == id) (is_received id rest) here))
          (λ there. elim (added_or_there n id rest there) [ inl new ↦ inl new | inr old ↦ inr (right_true (a == id) (is_received id rest) old) ])
    ] h

kept_or_not : (b : Bool) (id a : ℕ) (kept rest : List ℕ) → (is_received id kept ≡ true → is_received id rest ≡ true) → is_received id (if b then a ∷ kept else kept) ≡ true → is_received id (a ∷ rest) ≡ true
kept_or_not true id a kept rest more h =
    either (a == id) (is_received id kept) (is_received id (a ∷ rest) ≡ true) h (λ here. left_true (a == id) (is_received id rest) here) (λ there. right_true (a == id) (is_received id rest) (more there))
kept_or_not false id a kept rest more h = right_true (a == id) (is_received id rest) (more h)

-- an id of a table without some id was there
there_before : (n id : ℕ) (ids : List ℕ) → is_received id (without_received n ids) ≡ true → is_received id ids ≡ true
there_before n id [] h = h
there_before n id (a ∷ rest) h = kept_or_not (not (a == n)) id a (without_received n rest) rest (there_before n id rest) h

-- ---- one change

changed-brings : (s : Session) (change : SessionOp) (id : ℕ) → is_received id (session_changed s change).received ≡ true → Brings id change ⊎ (is_received id s.received ≡ true)
changed-brings s (Take taken) id h = inl h
changed-brings s (Presence presence duration) id h = inr h
changed-brings s (Register topic name known) id h = inr h
changed-brings s (Subscribe asked qos) id h = inr h
changed-brings s (Unsubscribe asked) id h = inr h
changed-brings s (WillTopic asked) id h = inr h
changed-brings s (WillMsg message) id h = inr h
changed-brings s (Received n) id h = added_or_there n id s.received h
changed-brings s (Released n) id h = inr (there_before n id s.received h)
changed-brings s (Outbound exchange next) id h = inr h

choose_brings : (b : Bool) (s t : Session) (id : ℕ) (C : Type 0) → (is_received id s.received ≡ true → C) → (is_received id t.received ≡ true → C) → is_received id (if b then s else t).received ≡ true → C
choose_brings true s t id C f g h = f h
choose_brings false s t id C f g h = g h

pub applied-brings : (s : Session) (change : SessionOp) (id : ℕ) → is_received id (applied s change).received ≡ true → Brings id change ⊎ (is_received id s.received ≡ true)
applied-brings s change id h =
    choose_brings (is_full s change) s (session_changed s change) id (Brings id change ⊎ (is_received id s.received ≡ true)) (λ e. inr e) (changed-brings s change id) h

-- ---- the session of a history

-- there is a session, and it has received the id
abbrev Has : ℕ → Option Session → Type 0
Has id None = ⊥
Has id (Some s) = is_received id s.received ≡ true

after-brings : (o : Option Session) (change : SessionOp) (id : ℕ) → Has id (after_change o change) → Brings id change ⊎ Has id o
after-brings None (Take taken) id h = inl h
after-brings None change id h = absurd h
after-brings (Some s) change id h = applied-brings s change id h

-- one of the changes brings the id
abbrev OneBrings : ℕ → List SessionOp → Type 0
OneBrings id [] = ⊥
OneBrings id (change ∷ rest) = Brings id change ⊎ OneBrings id rest

fold-brings : (o : Option Session) (done : List SessionOp) (id : ℕ) → Has id (fold after_change o done) → OneBrings id done ⊎ Has id o
fold-brings o [] id h = inr h
fold-brings o (change ∷ rest) id h =
    elim (fold-brings (after_change o change) rest id h) [
      | inl later ↦ inl (inr later)
      | inr before ↦ elim (after-brings o change id before) [ inl now ↦ inl (inl now) | inr first ↦ inr first ]
    ]

module _ (at : ℕ → Option SessionOp) (id : ℕ) where
  -- a change at some number brings the id
  abbrev IsFound : Type 0
  IsFound = (n : ℕ) × (change : SessionOp) × (at n ≡ Some change) × Brings id change

  first-brings : (k : ℕ) (rest : List SessionOp) (o : Option SessionOp) → at k ≡ o → OneBrings id (then_more o rest) → IsFound ⊎ OneBrings id rest
  first-brings k rest None e h = absurd h
  first-brings k rest (Some change) e (inl now) = inl (k, change, e, now)
  first-brings k rest (Some change) e (inr later) = inr later

  gapless-brings : (room k : ℕ) → OneBrings id (gapless at room k) → IsFound
  unfolding gapless
  gapless-brings zero k h = absurd h
  gapless-brings (suc room) k h =
      elim (first-brings k (gapless at room (k + 1)) (at k) refl h) [
        | inl found ↦ found
        | inr later ↦ gapless-brings room (k + 1) later
      ]

history-brings : (c : List ℕ) (id : ℕ) (S : List Op) (stamp : Option Stamp) → OneBrings id (history_at (operation_at c S) stamp) → HasOne c id S
history-brings c id S None h = absurd h
history-brings c id S (Some stamp) h =
    let f = gapless-brings (λ k. operation_at c S (stamp, k)) id 256 0 h in
    (stamp, f.0, f.1, operation_occurs c S (stamp, f.0) f.1 f.2, f.3)

or_empty : (o : Option Session) (id : ℕ) → is_received id (unwrap_or o empty_session).received ≡ true → Has id o
or_empty None id h = absurd (true≢false (sym h))
or_empty (Some s) id h = h

-- what the session of a client has received, an operation of the set brought
pub seen-brings : (c : List ℕ) (id : ℕ) (S : List Op) → is_received id (session_seen (seen_of S) c).received ≡ true → HasOne c id S
seen-brings c id S h =
    elim (fold-brings None (history c S) id (or_empty (view c S).session id h)) [
      | inl one ↦ history-brings c id S (visible c S) one
      | inr none ↦ absurd none
    ]
