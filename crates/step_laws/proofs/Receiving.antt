-- A message id that is received stays so, until it is released or the session is another.
use Rattle.std.proofs.Common.{◌≡◌, ℕ, ◌==◌, Bool, true, false, not, ◌||◌, if◌then◌else◌, List, [], ◌∷◌, refl, sym, ap, ◌∙◌, true≢false, Less, Equal, Greater, eqb-true}
use Rattle.std.specs.Ordering.{nat_cmp}
use Rattle.std.specs.Cmp.{nat_cmp_total, tied_itself}
use Rattle.std.proofs.lemmas.Cmp.{ranked}
use Rattle.sn_tables.specs.Tables.{by_order, with_entry}
use Rattle.sn_tables.specs.Received.{is_received, with_received, without_received}
use Rattle.sn_session.specs.Session.{applied, is_full, session_changed}
use Rattle.sn_session.specs.declared.session.Session.{Session}
use Rattle.sn_session.specs.declared.change.SessionOp.{SessionOp}
use Rattle.sn_session.specs.declared.change.SessionOp.TheVariants.{Take, Presence, Register, Subscribe, Unsubscribe, WillTopic, WillMsg, Received, Released, Outbound}
use Rattle.sn_tables.proofs.Numbers.{tied}
use Rattle.step_laws.specs.Laws.{ends_received}

itself : (id : ℕ) → (id == id) ≡ true
itself id = tied id id (tied_itself nat_cmp_total id)

or_right : (a b : Bool) → b ≡ true → (a || b) ≡ true
or_right true b h = refl
or_right false b h = h

or_left : (a b : Bool) → a ≡ true → (a || b) ≡ true
or_left true b h = refl
or_left false b h = absurd (true≢false (sym h))

-- one of two holds
or_case : (a b : Bool) (C : Type 0) → (a || b) ≡ true → (a ≡ true → C) → (b ≡ true → C) → C
or_case true b C h left right = left refl
or_case false b C h left right = right h

pub added : (id : ℕ) (ids : List ℕ) → is_received id (with_received id ids) ≡ true
added id [] = or_left (id == id) false (itself id)
added id (a ∷ rest) =
    elim (nat_cmp id a) as (λ o. is_received id (by_order o (id ∷ a ∷ rest) (id ∷ rest) (a ∷ with_entry nat_cmp id rest)) ≡ true) [
      | Less ↦ or_left (id == id) (is_received id (a ∷ rest)) (itself id)
      | Equal ↦ or_left (id == id) (is_received id rest) (itself id)
      | Greater ↦ or_right (a == id) (is_received id (with_received id rest)) (added id rest)
    ]

pub kept_by_adding : (n id : ℕ) (ids : List ℕ) → is_received id ids ≡ true → is_received id (with_received n ids) ≡ true
kept_by_adding n id [] h = absurd (true≢false (sym h))
kept_by_adding n id (a ∷ rest) h =
    elim (nat_cmp n a) as (λ o. nat_cmp n a ≡ o → is_received id (by_order o (n ∷ a ∷ rest) (n ∷ rest) (a ∷ with_entry nat_cmp n rest)) ≡ true) [
      | Less ↦ λ e. or_right (n == id) (is_received id (a ∷ rest)) h
      | Equal ↦ λ e. ap (λ x. (x == id) || is_received id rest) (ranked n a Equal (sym e)) ∙ h
      | Greater ↦ λ e. or_case (a == id) (is_received id rest) (((a == id) || is_received id (with_received n rest)) ≡ true) h
          (λ here. or_left (a == id) (is_received id (with_received n rest)) here)
          (λ there. or_right (a == id) (is_received id (with_received n rest)) (kept_by_adding n id rest there))
    ] refl

if_kept : (b : Bool) (id a : ℕ) (rest : List ℕ) → b ≡ true → (a == id) ≡ true → is_received id (if b then a ∷ rest else rest) ≡ true
if_kept true id a rest h here = or_left (a == id) (is_received id rest) here
if_kept false id a rest h here = absurd (true≢false (sym h))

if_later : (b : Bool) (id a : ℕ) (rest : List ℕ) → is_received id rest ≡ true → is_received id (if b then a ∷ rest else rest) ≡ true
if_later true id a rest h = or_right (a == id) (is_received id rest) h
if_later false id a rest h = h

other_number : (n id a : ℕ) → (n == id) ≡ false → (a == id) ≡ true → not (a == n) ≡ true
other_number n id a other here =
    elim (a == n) as (λ b. (a == n) ≡ b → not b ≡ true) [
      | true ↦ λ e. absurd (true≢false (sym here ∙ (ap (λ x. x == id) (eqb-true a n e) ∙ other)))
      | false ↦ λ e. refl
    ] refl

pub kept_by_release : (n id : ℕ) (ids : List ℕ) → (n == id) ≡ false → is_received id ids ≡ true → is_received id (without_received n ids) ≡ true
kept_by_release n id [] other h = absurd (true≢false (sym h))
kept_by_release n id (a ∷ rest) other h =
    or_case (a == id) (is_received id rest) (is_received id (without_received n (a ∷ rest)) ≡ true) h
    (λ here. if_kept (not (a == n)) id a (without_received n rest) (other_number n id a other here) here)
    (λ there. if_later (not (a == n)) id a (without_received n rest) (kept_by_release n id rest other there))

choose_kept : (b : Bool) (id : ℕ) (x y : Session) → is_received id x.received ≡ true → is_received id y.received ≡ true → is_received id (if b then x else y).received ≡ true
choose_kept true id x y h k = h
choose_kept false id x y h k = k

pub stays-received : (s : Session) (change : SessionOp) (id : ℕ) → ends_received id change ≡ false → is_received id s.received ≡ true → is_received id (applied s change).received ≡ true
stays-received s (Take taken) id other h = absurd (true≢false other)
stays-received s (Presence presence duration) id other h = h
stays-received s (Register topic name known) id other h = choose_kept (is_full s (Register topic name known)) id s (session_changed s (Register topic name known)) h h
stays-received s (Subscribe asked qos) id other h = choose_kept (is_full s (Subscribe asked qos)) id s (session_changed s (Subscribe asked qos)) h h
stays-received s (Unsubscribe asked) id other h = h
stays-received s (WillTopic asked) id other h = h
stays-received s (WillMsg message) id other h = h
stays-received s (Received n) id other h = choose_kept (is_full s (Received n)) id s (session_changed s (Received n)) h (kept_by_adding n id s.received h)
stays-received s (Released n) id other h = kept_by_release n id s.received other h
stays-received s (Outbound exchange next) id other h = h
