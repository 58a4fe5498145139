-- When nothing is due with a client: what was just sent, a client that is heard of, one that is lost or sleeps.
use Rattle.std.proofs.Common.{◌≡◌, ◌<◌, ℕ, ◌-◌, Bool, true, false, ◌&&◌, ◌||◌, if◌then◌else◌, nat_lt, nat_le, List, [], ◌∷◌, ◌++◌, Option, Some, None, refl, sym, ap, ◌∙◌, arith}
use Rattle.std.specs.declared.cmp.Ordering.TheVariants.{Less, Equal, Greater}
use Rattle.std.specs.Ordering.{is_eq, ordering_reverse}
use Rattle.std.proofs.lemmas.Bool.Decides.{nat_tests}
use Rattle.std.proofs.lemmas.List.Sums.{fold-append}
use Rattle.sn_tables.specs.Tables.{by_order}
use Rattle.sn_session.specs.declared.presence.Presence.{Presence}
use Rattle.sn_session.specs.declared.presence.Presence.TheVariants.{Active, Asleep, Awake, Disconnected, Lost}
use Rattle.sn_session.specs.declared.outbound.Outbound.{Outbound as Exchange}
use Rattle.sn_session.specs.declared.session.Session.{Session}
use Rattle.rep_op.specs.declared.op.Put.{Put}
use Rattle.rep_op.specs.Sets.{same_client}
use Rattle.rep_model.proofs.Readers.{client_total}
use Rattle.sn_local.specs.declared.config.Addr.{Addr}
use Rattle.sn_local.specs.declared.local.Timer.{Timer}
use Rattle.sn_local.specs.declared.local.LocalChange.{LocalChange}
use Rattle.sn_plan.specs.Others.{is_up}
use Rattle.sn_local.specs.Timers.{timer_cmp, timed, timer_of, started, sent_at, resent_at, retried_at, timer_change, timers_after}
use Rattle.sn_local.proofs.Entries.{same_client-itself}
use Rattle.sn_local.proofs.TimerPlaces.{same_by_order}
use Rattle.sn_tick.specs.declared.due.Due.TheVariants.{Loss, Retry, Delivery}
use Rattle.sn_exchange.specs.Exchanges.{open_exchange, is_served, is_awake}
use Rattle.sn_tick.specs.Due.{patience, is_silent, is_overdue, due_exchange, due_by, due_at, due_session}

-- ---- tests that choose

pub first_of : {X : Type 0} (b : Bool) (x y z : X) → ¬ (y ≡ z) → (if b then x else y) ≡ z → (b ≡ true) × (x ≡ z)
first_of true x y z never e = (refl, e)
first_of false x y z never e = absurd (never e)

pub second_of : {X : Type 0} (b : Bool) (x y z : X) → ¬ (x ≡ z) → (if b then x else y) ≡ z → (b ≡ false) × (y ≡ z)
second_of true x y z never e = absurd (never e)
second_of false x y z never e = (refl, e)

pub either_none : {X : Type 0} (b : Bool) (x : Option X) → x ≡ None → (if b then x else None) ≡ None
either_none true x e = e
either_none false x e = refl

pub none_some : {X : Type 0} (x : X) → ¬ (None ≡ Some x)
none_some x e = cc

pub some_none : {X : Type 0} (x : X) → ¬ (Some x ≡ None)
some_none x e = cc

pub and_false : (b : Bool) → (b && false) ≡ false
and_false true = refl
and_false false = refl

pub awake_up : (p : Presence) → is_awake p ≡ true → is_up p ≡ true
awake_up Active e = refl
awake_up Asleep e = refl
awake_up Awake e = refl
awake_up Disconnected e = e
awake_up Lost e = e

-- ---- timers

-- a timer above another is of another client
above_apart : (t k : Timer) → timer_cmp t k ≡ Greater → same_client k.client t.client ≡ false
above_apart t k e = same_by_order k.client t.client ∙ ap is_eq (client_total.antisymm k.client t.client ∙ ap ordering_reverse e)

-- a timer that is set is found
pub timed_found : (t : Timer) (timers : List Timer) → timer_of t.client (timed t timers) ≡ Some t
timed_found t [] = ap (λ b. if b then Some t else None) (same_client-itself t.client)
timed_found t (k ∷ timers) =
    elim (timer_cmp t k) as (λ o. timer_cmp t k ≡ o → timer_of t.client (by_order o (t ∷ k ∷ timers) (t ∷ timers) (k ∷ timed t timers)) ≡ Some t) [
      | Less ↦ λ _. ap (λ b. if b then Some t else timer_of t.client (k ∷ timers)) (same_client-itself t.client)
      | Equal ↦ λ _. ap (λ b. if b then Some t else timer_of t.client timers) (same_client-itself t.client)
      | Greater ↦ λ e. ap (λ b. if b then Some k else timer_of t.client (timed t timers)) (above_apart t k e) ∙ timed_found t timers
    ] refl

pub sent_found : (c : List ℕ) (now : ℕ) (timers : List Timer) (o : Option Timer) → timer_of c (timed (sent_at c now o) timers) ≡ Some (sent_at c now o)
sent_found c now timers None = timed_found (sent_at c now None) timers
sent_found c now timers (Some t) = timed_found (sent_at c now (Some t)) timers

pub resent_found : (c : List ℕ) (now : ℕ) (timers : List Timer) (o : Option Timer) → timer_of c (timed (resent_at c now o) timers) ≡ Some (resent_at c now o)
resent_found c now timers None = timed_found (resent_at c now None) timers
resent_found c now timers (Some t) = timed_found (resent_at c now (Some t)) timers

pub retried_found : (c : List ℕ) (now : ℕ) (timers : List Timer) (o : Option Timer) → timer_of c (timed (retried_at c now o) timers) ≡ Some (retried_at c now o)
retried_found c now timers None = timed_found (retried_at c now None) timers
retried_found c now timers (Some t) = timed_found (retried_at c now (Some t)) timers

pub one_more : (timers : List Timer) (local : List LocalChange) (change : LocalChange) → timers_after timers (local ++ change ∷ []) ≡ timer_change (timers_after timers local) change
one_more timers local change = fold-append timer_change timers local (change ∷ [])

pub no_time : (now : ℕ) → nat_le 10 (now - now) ≡ false
no_time now = grind (arith, nat_tests)

-- what was sent at this moment is not sent again yet
pub rests : (now : ℕ) (a : Addr) (t : Timer) → t.sent ≡ now → due_exchange now a (Some t) ≡ None
rests now a t e =
    ap (λ since. if nat_le 10 (now - since) then (if nat_le 4 t.tries then Some Loss else Some (Retry a)) else None) e
    ∙ ap (λ b. if b then (if nat_le 4 t.tries then Some Loss else Some (Retry a)) else None) (no_time now)

pub sent_rests : (now : ℕ) (a : Addr) (c : List ℕ) (o : Option Timer) → due_exchange now a (Some (sent_at c now o)) ≡ None
sent_rests now a c None = rests now a (sent_at c now None) refl
sent_rests now a c (Some t) = rests now a (sent_at c now (Some t)) refl

pub resent_rests : (now : ℕ) (a : Addr) (c : List ℕ) (o : Option Timer) → due_exchange now a (Some (resent_at c now o)) ≡ None
resent_rests now a c None = rests now a (resent_at c now None) refl
resent_rests now a c (Some t) = rests now a (resent_at c now (Some t)) refl

-- ---- clients that are not overdue

pub patient : (n : ℕ) → 0 < n → 0 < patience n
patient n h = omega arith

pub not_yet : (n now : ℕ) → (nat_lt 0 n && nat_le (patience n) (now - now)) ≡ false
not_yet n now = elim (nat_lt 0 n) as (λ b. nat_lt 0 n ≡ b → (b && nat_le (patience n) (now - now)) ≡ false) [
  | true ↦ λ e. let some : 0 < n = grind (arith, nat_tests) in let more : 0 < patience n = patient n some in grind (arith, nat_tests, more)
  | false ↦ λ _. refl
] refl

pub started_calm : (now : ℕ) (c : List ℕ) (s : Session) → is_overdue now s (Some (started c now)) ≡ false
started_calm now c s = ap (λ b. is_up s.presence && b) (not_yet s.duration now) ∙ and_false (is_up s.presence)

pub sent_calm : (now : ℕ) (c : List ℕ) (s : Session) (o : Option Timer) → is_overdue now s o ≡ false → is_overdue now s (Some (sent_at c now o)) ≡ false
sent_calm now c s None h = started_calm now c s
sent_calm now c s (Some t) h = h

pub resent_calm : (now : ℕ) (c : List ℕ) (s : Session) (o : Option Timer) → is_overdue now s o ≡ false → is_overdue now s (Some (resent_at c now o)) ≡ false
resent_calm now c s None h = started_calm now c s
resent_calm now c s (Some t) h = h

pub retried_calm : (now : ℕ) (c : List ℕ) (s : Session) (o : Option Timer) → is_overdue now s o ≡ false → is_overdue now s (Some (retried_at c now o)) ≡ false
retried_calm now c s None h = started_calm now c s
retried_calm now c s (Some t) h = h

pub calm_alike : (now : ℕ) (r s : Session) (o : Option Timer) → r.presence ≡ s.presence → r.duration ≡ s.duration → is_overdue now s o ≡ false → is_overdue now r o ≡ false
calm_alike now r s None e f h = h
calm_alike now r s (Some t) e f h =
    ap (λ p. is_up p && (nat_lt 0 r.duration && nat_le (patience r.duration) (now - t.heard))) e
    ∙ ap (λ n. is_up s.presence && (nat_lt 0 n && nat_le (patience n) (now - t.heard))) f
    ∙ h

pub calm_asleep : (now : ℕ) (r s : Session) (o : Option Timer) → is_awake s.presence ≡ true → is_overdue now s o ≡ false
    → is_overdue now (record r { presence = Asleep; duration = s.duration }) o ≡ false
calm_asleep now r s None awake h = h
calm_asleep now r s (Some t) awake h = sym (ap (λ up. up && is_silent now s t) (awake_up s.presence awake)) ∙ h

-- ---- ends

-- with a client that is sent nothing, nothing is due
pub by_unserved : (now : ℕ) (s : Session) (pending : List Put) (o : Option Timer) (b : Option Addr) → is_served s.presence ≡ false → due_at now s pending o b ≡ None
by_unserved now s pending o None h = refl
by_unserved now s pending o (Some a) h = ap (λ t. if t then due_by now s pending a o (open_exchange s [] pending) else None) h

pub by_rest : (now : ℕ) (s : Session) (pending : List Put) (o : Option Timer) (b : Option Addr) (x : Exchange) → open_exchange s [] pending ≡ Some x
    → ((a : Addr) → due_exchange now a o ≡ None) → due_at now s pending o b ≡ None
by_rest now s pending o None x e rest = refl
by_rest now s pending o (Some a) x e rest =
    either_none (is_served s.presence) (due_by now s pending a o (open_exchange s [] pending)) (ap (due_by now s pending a o) e ∙ rest a)

pub by_empty : (now : ℕ) (s : Session) (o : Option Timer) (b : Option Addr) → open_exchange s [] [] ≡ None → is_awake s.presence ≡ false → due_at now s [] o b ≡ None
by_empty now s o None e awake = refl
by_empty now s o (Some a) e awake =
    either_none (is_served s.presence) (due_by now s [] a o (open_exchange s [] []))
    (ap (due_by now s [] a o) e ∙ ap (λ t. if t || nat_lt 0 0 then Some (Delivery a) else None) awake)

pub ends : (now : ℕ) (s : Session) (pending : List Put) (o : Option Timer) (b : Option Addr) → is_overdue now s o ≡ false → due_at now s pending o b ≡ None
    → due_session now pending o b (Some s) ≡ None
ends now s pending o b calm h = ap (λ t. if t then Some Loss else due_at now s pending o b) calm ∙ h
