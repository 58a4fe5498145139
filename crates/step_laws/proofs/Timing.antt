-- What a tick does to the local state: the bindings stay, and the timers of other clients say what they said.
use Rattle.std.proofs.Common.{◌≡◌, ℕ, ◌⊎◌, ◌-◌, Bool, true, false, ◌&&◌, if◌then◌else◌, nat_le, nat_lt, List, [], ◌∷◌, ◌++◌, Option, Some, None, refl, sym, ap, ◌∙◌, subst, true≢false, inl, inr}
use Rattle.std.specs.declared.cmp.Ordering.TheVariants.{Less, Equal, Greater}
use Rattle.std.specs.Ordering.{is_eq}
use Rattle.std.proofs.lemmas.List.Sums.{fold-append}
use Rattle.std.proofs.lemmas.Option.{same_Some}
use Rattle.sn_tables.specs.Tables.{by_order}
use Rattle.sn_session.specs.declared.outbound.Outbound.{Outbound as Exchange}
use Rattle.sn_session.specs.declared.session.Session.{Session}
use Rattle.rep_op.specs.declared.op.Put.{Put}
use Rattle.rep_op.specs.Sets.{same_client}
use Rattle.rep_model.proofs.Readers.{same_client-true}
use Rattle.sn_local.specs.declared.config.Addr.{Addr}
use Rattle.sn_local.specs.declared.local.Binding.{Binding}
use Rattle.sn_local.specs.declared.local.Timer.{Timer}
use Rattle.sn_local.specs.declared.local.LocalChange.{LocalChange}
use Rattle.sn_local.specs.declared.local.LocalChange.TheVariants.{Heard, Sent, Resent, Retried, EndDialog}
use Rattle.sn_local.specs.Bindings.{binding_change, bindings_after}
use Rattle.sn_local.specs.Timers.{timer_cmp, timed, timer_of, started, heard_at, sent_at, resent_at, retried_at, timers_after}
use Rattle.sn_local.specs.Advertising.{advertised_change, advertised_after}
use Rattle.sn_local.specs.Locals.{Local}
use Rattle.sn_local.proofs.Entries.{same_client-itself, same_client-apart}
use Rattle.sn_local.proofs.TimerPlaces.{same_by_order}
use Rattle.sn_tick.specs.declared.due.Due.TheVariants.{Loss}
use Rattle.sn_exchange.specs.Exchanges.{open_exchange, is_served}
use Rattle.sn_tick.specs.Due.{patience, is_overdue, due_by, due_at, due_session}
use Rattle.sn_plan.specs.Others.{is_up}
use Rattle.sn_tick.proofs.Calm.{some_none, timed_found, one_more, rests, not_yet, and_false}

-- ---- timers of others

module _ (x : List ℕ) (t : Timer) (other : ¬ (x ≡ t.client)) where
  passed : (k : Timer) (rest : Option Timer) → k.client ≡ t.client → rest ≡ (if same_client k.client x then Some k else rest)
  passed k rest e = ap (λ b. if b then Some k else rest) (sym (ap (λ d. same_client d x) e ∙ same_client-apart t.client x (λ is. other (sym is))))

  apart : same_client t.client x ≡ false
  apart = same_client-apart t.client x (λ is. other (sym is))

  alike : (k : Timer) → timer_cmp t k ≡ Equal → k.client ≡ t.client
  alike k e = sym (same_client-true t.client k.client (same_by_order t.client k.client ∙ ap is_eq e))

  pub others_timed : (timers : List Timer) → timer_of x (timed t timers) ≡ timer_of x timers
  others_timed [] = ap (λ b. if b then Some t else None) apart
  others_timed (k ∷ timers) =
      elim (timer_cmp t k) as (λ o. timer_cmp t k ≡ o → timer_of x (by_order o (t ∷ k ∷ timers) (t ∷ timers) (k ∷ timed t timers)) ≡ (if same_client k.client x then Some k else timer_of x timers)) [
        | Less ↦ λ _. ap (λ b. if b then Some t else timer_of x (k ∷ timers)) apart
        | Equal ↦ λ e. ap (λ b. if b then Some t else timer_of x timers) apart ∙ passed k (timer_of x timers) (alike k e)
        | Greater ↦ λ _. ap (λ o. if same_client k.client x then Some k else o) (others_timed timers)
      ] refl

module _ (x c : List ℕ) (now : ℕ) (other : ¬ (x ≡ c)) (timers : List Timer) where
  heard_others : (o : Option Timer) → timer_of x (timed (heard_at c now o) timers) ≡ timer_of x timers
  heard_others None = others_timed x (heard_at c now None) other timers
  heard_others (Some t) = others_timed x (heard_at c now (Some t)) other timers

  sent_others : (o : Option Timer) → timer_of x (timed (sent_at c now o) timers) ≡ timer_of x timers
  sent_others None = others_timed x (sent_at c now None) other timers
  sent_others (Some t) = others_timed x (sent_at c now (Some t)) other timers

  resent_others : (o : Option Timer) → timer_of x (timed (resent_at c now o) timers) ≡ timer_of x timers
  resent_others None = others_timed x (resent_at c now None) other timers
  resent_others (Some t) = others_timed x (resent_at c now (Some t)) other timers

  retried_others : (o : Option Timer) → timer_of x (timed (retried_at c now o) timers) ≡ timer_of x timers
  retried_others None = others_timed x (retried_at c now None) other timers
  retried_others (Some t) = others_timed x (retried_at c now (Some t)) other timers

-- ---- timers alike

-- a timer that begins at this moment
pub record Begins (now : ℕ) (o p : Option Timer) : Type 0 where
  pub none : o ≡ None
  pub timer : Timer
  pub is : p ≡ Some timer
  pub heard : timer.heard ≡ now
  pub sent : timer.sent ≡ now

-- the same timer, or one that begins at this moment in place of none
abbrev pub Alike : ℕ → Option Timer → Option Timer → Type 0
Alike now o p = (p ≡ o) ⊎ Begins now o p

module _ (now : ℕ) (pending : List Put) (t : Timer) (is_heard : t.heard ≡ now) (is_sent : t.sent ≡ now) where
  begins_calm : (s : Session) → is_overdue now s (Some t) ≡ false
  begins_calm s =
      ap (λ since. is_up s.presence && (nat_lt 0 s.duration && nat_le (patience s.duration) (now - since))) is_heard
      ∙ ap (λ b. is_up s.presence && b) (not_yet s.duration now)
      ∙ and_false (is_up s.presence)

  begins_by : (s : Session) (a : Addr) (x : Option Exchange) → due_by now s pending a (Some t) x ≡ due_by now s pending a None x
  begins_by s a None = refl
  begins_by s a (Some x) = rests now a t is_sent

  begins_at : (s : Session) (a : Option Addr) → due_at now s pending (Some t) a ≡ due_at now s pending None a
  begins_at s None = refl
  begins_at s (Some a) = ap (λ o. if is_served s.presence then o else None) (begins_by s a (open_exchange s [] pending))

  begins_due : (a : Option Addr) (session : Option Session) → due_session now pending (Some t) a session ≡ due_session now pending None a session
  begins_due a None = refl
  begins_due a (Some s) = ap (λ b. if b then Some Loss else due_at now s pending (Some t) a) (begins_calm s) ∙ begins_at s a

-- with timers that are alike the same is due
pub due-alike : (now : ℕ) (pending : List Put) (o p : Option Timer) (a : Option Addr) (session : Option Session) → Alike now o p
    → due_session now pending p a session ≡ due_session now pending o a session
due-alike now pending o p a session (inl e) = ap (λ t. due_session now pending t a session) e
due-alike now pending o p a session (inr h) =
    ap (λ t. due_session now pending t a session) h.is
    ∙ begins_due now pending h.timer h.heard h.sent a session
    ∙ ap (λ t. due_session now pending t a session) (sym h.none)

-- ---- changes that keep the local state

-- these changes keep the bindings, the moment of ADVERTISE, and the timers of these clients
pub record AreKept (now : ℕ) (local : Local) (who : List ℕ → Type 0) (changes : List LocalChange) : Type 0 where
  pub bindings : bindings_after local.bindings changes ≡ local.bindings
  pub advertised : advertised_after local.advertised changes ≡ local.advertised
  pub timers : (x : List ℕ) → who x → Alike now (timer_of x local.timers) (timer_of x (timers_after local.timers changes))

-- one change more, where it is of no binding
pub still_bound : (bindings : List Binding) (changes : List LocalChange) (change : LocalChange) → ((bs : List Binding) → binding_change bs change ≡ bs)
    → bindings_after bindings changes ≡ bindings → bindings_after bindings (changes ++ change ∷ []) ≡ bindings
still_bound bindings changes change keeps h =
    fold-append binding_change bindings changes (change ∷ []) ∙ keeps (bindings_after bindings changes) ∙ h

pub still_told : (last : Option ℕ) (changes : List LocalChange) (change : LocalChange) → ((o : Option ℕ) → advertised_change o change ≡ o)
    → advertised_after last changes ≡ last → advertised_after last (changes ++ change ∷ []) ≡ last
still_told last changes change keeps h =
    fold-append advertised_change last changes (change ∷ []) ∙ keeps (advertised_after last changes) ∙ h

alike_then : (now : ℕ) (o p q : Option Timer) → q ≡ p → Alike now o p → Alike now o q
alike_then now o p q e h = subst (Alike now o) (sym e) h

module _ (now : ℕ) (local : Local) (who : List ℕ → Type 0) (changes : List LocalChange) (kept : AreKept now local who changes) where
  abbrev so : List Timer
  so = timers_after local.timers changes

  pub kept-ended : (a : Addr) → AreKept now local who (changes ++ EndDialog a ∷ [])
  kept-ended a = record {
    bindings = still_bound local.bindings changes (EndDialog a) (λ bs. refl) kept.bindings;
    advertised = still_told local.advertised changes (EndDialog a) (λ o. refl) kept.advertised;
    timers = λ x is. alike_then now (timer_of x local.timers) (timer_of x so) (timer_of x (timers_after local.timers (changes ++ EndDialog a ∷ [])))
        (ap (timer_of x) (one_more local.timers changes (EndDialog a))) (kept.timers x is);
  }

  module _ (c : List ℕ) (apart : (x : List ℕ) → who x → ¬ (x ≡ c)) where
    pub kept-sent : AreKept now local who (changes ++ Sent c now ∷ [])
    kept-sent = record {
      bindings = still_bound local.bindings changes (Sent c now) (λ bs. refl) kept.bindings;
      advertised = still_told local.advertised changes (Sent c now) (λ o. refl) kept.advertised;
      timers = λ x is. alike_then now (timer_of x local.timers) (timer_of x so) (timer_of x (timers_after local.timers (changes ++ Sent c now ∷ [])))
          (ap (timer_of x) (one_more local.timers changes (Sent c now)) ∙ sent_others x c now (apart x is) so (timer_of c so)) (kept.timers x is);
    }

    pub kept-resent : AreKept now local who (changes ++ Resent c now ∷ [])
    kept-resent = record {
      bindings = still_bound local.bindings changes (Resent c now) (λ bs. refl) kept.bindings;
      advertised = still_told local.advertised changes (Resent c now) (λ o. refl) kept.advertised;
      timers = λ x is. alike_then now (timer_of x local.timers) (timer_of x so) (timer_of x (timers_after local.timers (changes ++ Resent c now ∷ [])))
          (ap (timer_of x) (one_more local.timers changes (Resent c now)) ∙ resent_others x c now (apart x is) so (timer_of c so)) (kept.timers x is);
    }

    pub kept-retried : AreKept now local who (changes ++ Retried c now ∷ [])
    kept-retried = record {
      bindings = still_bound local.bindings changes (Retried c now) (λ bs. refl) kept.bindings;
      advertised = still_told local.advertised changes (Retried c now) (λ o. refl) kept.advertised;
      timers = λ x is. alike_then now (timer_of x local.timers) (timer_of x so) (timer_of x (timers_after local.timers (changes ++ Retried c now ∷ [])))
          (ap (timer_of x) (one_more local.timers changes (Retried c now)) ∙ retried_others x c now (apart x is) so (timer_of c so)) (kept.timers x is);
    }

  -- a client without a timer that is heard of
  begun_alike : (c : List ℕ) (o p : Option Timer) → o ≡ None → timer_of c so ≡ p → Alike now o p → Alike now o (Some (heard_at c now p))
  begun_alike c o None none is h = inr (record { none = none; timer = started c now; is = refl; heard = refl; sent = refl })
  begun_alike c o (Some t) none is (inl e) = absurd (some_none t (e ∙ none))
  begun_alike c o (Some t) none is (inr h) =
      inr (record { none = none; timer = heard_at c now (Some t); is = refl; heard = refl; sent = ap (λ (x : Timer). x.sent) (same_Some t h.timer h.is) ∙ h.sent })

  found_heard : (c : List ℕ) (p : Option Timer) → timer_of c (timed (heard_at c now p) so) ≡ Some (heard_at c now p)
  found_heard c None = timed_found (heard_at c now None) so
  found_heard c (Some t) = timed_found (heard_at c now (Some t)) so

  heard_alike : (c x : List ℕ) → timer_of c local.timers ≡ None → Alike now (timer_of x local.timers) (timer_of x so) → (same : Bool) → same_client x c ≡ same
      → Alike now (timer_of x local.timers) (timer_of x (timed (heard_at c now (timer_of c so)) so))
  heard_alike c x none h true e =
      let is : x ≡ c = same_client-true x c e in
      subst (λ y. Alike now (timer_of y local.timers) (timer_of y (timed (heard_at c now (timer_of c so)) so))) (sym is)
      (alike_then now (timer_of c local.timers) (Some (heard_at c now (timer_of c so))) (timer_of c (timed (heard_at c now (timer_of c so)) so)) (found_heard c (timer_of c so))
      (begun_alike c (timer_of c local.timers) (timer_of c so) none refl (subst (λ y. Alike now (timer_of y local.timers) (timer_of y so)) is h)))
  heard_alike c x none h false e =
      alike_then now (timer_of x local.timers) (timer_of x so) (timer_of x (timed (heard_at c now (timer_of c so)) so))
      (heard_others x c now (λ is. true≢false (sym (same_client-itself c) ∙ ap (λ y. same_client y c) (sym is) ∙ e)) so (timer_of c so)) h

  pub kept-heard : (c : List ℕ) → timer_of c local.timers ≡ None → AreKept now local who (changes ++ Heard c now ∷ [])
  kept-heard c none = record {
    bindings = still_bound local.bindings changes (Heard c now) (λ bs. refl) kept.bindings;
    advertised = still_told local.advertised changes (Heard c now) (λ o. refl) kept.advertised;
    timers = λ x is. alike_then now (timer_of x local.timers) (timer_of x (timed (heard_at c now (timer_of c so)) so)) (timer_of x (timers_after local.timers (changes ++ Heard c now ∷ [])))
        (ap (timer_of x) (one_more local.timers changes (Heard c now))) (heard_alike c x none (kept.timers x is) (same_client x c) refl);
  }
