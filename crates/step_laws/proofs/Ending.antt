-- Ticks of one moment come to an end.
use Rattle.std.proofs.Common.{◌≡◌, ℕ, suc, ◌+◌, ◌*◌, ◌-◌, ◌<◌, ◌≤◌, Bool, true, false, ◌&&◌, ◌||◌, if◌then◌else◌, nat_lt, nat_le, is_some, List, [], ◌∷◌, ◌++◌, length, Option, Some, None, IfSome, refl, sym, ap, ◌∙◌, subst, true≢false, inl, inr, arith, le_trans, le_of_eq, le-add_right, not-le_of_lt, append-nil}
use Rattle.std.proofs.lemmas.Bool.{or_parts, or_cases}
use Rattle.std.proofs.lemmas.Bool.Decides.{nat_tests}
use Rattle.std.proofs.lemmas.List.Sums.{fold-append}
use Rattle.std.proofs.lemmas.Option.{same_Some}
use Rattle.sn_topic.specs.Table.{Entries}
use Rattle.rep_op.specs.declared.op.Op.{Op}
use Rattle.rep_op.specs.Sets.{Same}
use Rattle.rep_model.specs.declared.view.ClientView.{ClientView}
use Rattle.rep_model.specs.Views.{view, clients, is_named}
use Rattle.rep_model.proofs.Named.{clients-named, unnamed-unseen}
use Rattle.sn_local.specs.declared.config.Addr.{Addr}
use Rattle.sn_local.specs.declared.local.LocalChange.{LocalChange}
use Rattle.sn_local.specs.declared.local.LocalChange.TheVariants.{Advertised}
use Rattle.sn_plan.specs.declared.plan.Plan.{Plan}
use Rattle.sn_local.specs.Advertising.{advertised_change, advertised_after}
use Rattle.sn_local.specs.Bindings.{bindings_after, is_stamp_of, address_of}
use Rattle.sn_plan.specs.Drafts.{Drafted, lasting}
use Rattle.sn_plan.specs.Flush.{HaveNoGap}
use Rattle.sn_local.specs.Locals.{Local, after_all}
use Rattle.sn_local.specs.Lifetimes.{expires_at}
use Rattle.sn_plan.specs.Others.{can_wake}
use Rattle.sn_local.specs.Seen.{seen_of}
use Rattle.sn_plan.specs.Plans.{plan_without}
use Rattle.sn_local.specs.Timers.{timer_of, timers_after}
use Rattle.row_laws.proofs.Stepping.{step-flush}
use Rattle.sn_tick.specs.declared.due.Due.{Due}
use Rattle.sn_tick.specs.declared.due.Due.TheVariants.{Expiry, Loss, Retry, Delivery}
use Rattle.sn_tick.specs.Expiry.{has_expired}
use Rattle.sn_tick.specs.Due.{due_session, due_view, due_with, or_later, first_due}
use Rattle.sn_tick.specs.Ticking.{begin_tick, may_advertise, advertised_to, advertised, plan_due, plan_if_due, tick}
use Rattle.step_laws.specs.Ticks.{Ticked, AreTicks, busy, does_something, set_behind, local_behind}
use Rattle.sn_tick.proofs.Calm.{none_some, some_none, and_false, one_more}
use Rattle.step_laws.proofs.Counting.{IsAmong, contains-among, count, weigh, weigh-some}
use Rattle.step_laws.proofs.Drafting.{tick-drafted}
use Rattle.step_laws.proofs.Keeping.{fold_keeps}
use Rattle.step_laws.proofs.Locally.{IsClean, lasting-clean, cleaned-clean}
use Rattle.step_laws.proofs.Lowering.{due-same, else-same, past-same, weight_of, weighs-due, weighs-past, first-found, first-same, is_up_in, weight_in, work, work-whole, times, told-lowers, rests-lowers, view-behind, clients-behind}
use Rattle.step_laws.proofs.Stepping.{due-lowers, expired-lowers}
use Rattle.step_laws.proofs.Timing.{Alike, still_bound}

-- ---- a tick without operations

-- these local changes keep the bindings, and the timers alike
record AreStill (now : ℕ) (local : Local) (changes : List LocalChange) : Type 0 where
  bindings : bindings_after local.bindings changes ≡ local.bindings
  timers : (x : List ℕ) → Alike now (timer_of x local.timers) (timer_of x (timers_after local.timers changes))

module _ (g now : ℕ) (S delta : List Op) (none : Same delta []) (local : Local) (changes : List LocalChange) (still : AreStill now local changes) where
  same_view : (x : List ℕ) → view x (S ++ delta) ≡ view x S
  same_view x = view-behind S [] delta none x ∙ ap (view x) (append-nil S)

  same_clients : clients (S ++ delta) ≡ clients S
  same_clients = clients-behind S [] delta none ∙ ap clients (append-nil S)

  same_due : (x : List ℕ) → due_with g (seen_of (S ++ delta)) (after_all local changes) now x ≡ due_with g (seen_of S) local now x
  same_due x =
      due-same g now x (view x S) (view x (S ++ delta)) local (after_all local changes)
      (ap (λ (v : ClientView). v.stamp) (same_view x)) (ap (λ (v : ClientView). v.pending) (same_view x)) (ap (λ (v : ClientView). v.session) (same_view x))
      still.bindings (still.timers x)

  same_first : first_due g (seen_of (S ++ delta)) (after_all local changes) now (clients (S ++ delta)) ≡ first_due g (seen_of S) local now (clients S)
  same_first =
      ap (first_due g (seen_of (S ++ delta)) (after_all local changes) now) same_clients
      ∙ first-same g now (seen_of S) (seen_of (S ++ delta)) local (after_all local changes) same_due (clients S)

  module _ (advertise : ℕ) (field : List Addr) where
    up_yet : (x : List ℕ) → is_up_in g advertise field now (S ++ delta) x ≡ true → is_up_in g advertise field now S x ≡ true
    up_yet x h = sym (ap (λ (v : ClientView). can_wake v.session) (same_view x)) ∙ h

    -- what is left to do with each is what it was
    still_due : (x : List ℕ) → weight_in g advertise field now (S ++ delta) (after_all local changes) x ≤ weight_in g advertise field now S local x
    still_due x =
        le_of_eq
        (λ i. weight_of
        (is_some (else-same g now x (view x S) (view x (S ++ delta)) local (after_all local changes)
        (ap (λ (v : ClientView). v.stamp) (same_view x)) (ap (λ (v : ClientView). v.pending) (same_view x)) (ap (λ (v : ClientView). v.session) (same_view x)) still.bindings (still.timers x) i))
        (past-same g now x (view x S) (view x (S ++ delta)) local (after_all local changes)
        (ap (λ (v : ClientView). v.stamp) (same_view x)) (ap (λ (v : ClientView). v.pending) (same_view x)) (ap (λ (v : ClientView). v.session) (same_view x)) still.bindings i))

-- ---- ADVERTISE

not_again : (advertise now : ℕ) → 0 < advertise → nat_le advertise (now - now) ≡ false
not_again advertise now h = grind (arith, nat_tests)

-- at the same moment it is not time for ADVERTISE again
just_told : (advertise : ℕ) (field : List Addr) (now : ℕ) → may_advertise advertise field now (Some now) ≡ false
just_told advertise field now =
    elim (nat_lt 0 advertise) as (λ b. nat_lt 0 advertise ≡ b → (b && nat_lt 0 (length field) && nat_le advertise (now - now)) ≡ false) [
      | true ↦ λ e. let some : 0 < advertise = grind (arith, nat_tests) in
          ap (λ t. nat_lt 0 (length field) && t) (not_again advertise now some) ∙ and_false (nat_lt 0 (length field))
      | false ↦ λ _. refl
    ] refl

told_local : (g advertise : ℕ) (field : List Addr) (now : ℕ) (d : Drafted) → (advertised g advertise field now d).local ≡ d.local ++ Advertised now ∷ []
told_local g advertise field now d = ap (λ (changes : List LocalChange). changes ++ Advertised now ∷ []) (fold_keeps (advertised_to g advertise) (λ d. d.local) (λ e a. refl) field d)

-- ---- numbers

at_once : (m n : ℕ) → m < n → m + 1 ≤ n
at_once m n h = omega arith

at_rest : (m n : ℕ) → m ≤ n → m + 0 ≤ n
at_rest m n h = omega arith

together : (one more yet left whole : ℕ) → more + yet ≤ left → left + one ≤ whole → (one + more) + yet ≤ whole
together one more yet left whole h k = omega arith

at_zero : (n : ℕ) → 0 + n ≤ n
at_zero n = omega arith

one_and : (m n : ℕ) → m ≤ n → suc m ≤ 1 + n
one_and m n h = omega arith

-- ---- each tick

module _ (g lifetime advertise : ℕ) (field : List Addr) (predefined : Entries) (now : ℕ) (S : List Op) (local : Local) where
  abbrev first : Drafted
  first = lasting (expires_at lifetime now) (begin_tick g (seen_of S) local now)

  clean : IsClean now local first
  clean = lasting-clean now local (expires_at lifetime now) (begin_tick g (seen_of S) local now) (cleaned-clean now local g (seen_of S))

  abbrev left_after : Plan → List Op → ℕ
  left_after plan delta = work g advertise field now (S ++ delta) (after_all local plan.local)

  abbrev left_before : ℕ
  left_before = work g advertise field now S local

  told_still : AreStill now local (first.local ++ Advertised now ∷ [])
  told_still = record {
    bindings = still_bound local.bindings first.local (Advertised now) (λ bs. refl) clean.kept.bindings;
    timers = λ x. subst (Alike now (timer_of x local.timers)) (sym (ap (timer_of x) (one_more local.timers first.local (Advertised now)))) (clean.kept.timers x tt);
  }

  told_at : advertised_after local.advertised (first.local ++ Advertised now ∷ []) ≡ Some now
  told_at = fold-append advertised_change local.advertised first.local (Advertised now ∷ [])

  told : (delta : List Op) → Same delta [] → may_advertise advertise field now local.advertised ≡ true
      → work g advertise field now (S ++ delta) (after_all local (first.local ++ Advertised now ∷ [])) < left_before
  told delta none time =
      let changes : List LocalChange = first.local ++ Advertised now ∷ [] in
      told-lowers g advertise field now S (S ++ delta) local (after_all local changes) (same_clients g now S delta none local changes told_still)
      (up_yet g now S delta none local changes told_still advertise field) (still_due g now S delta none local changes told_still advertise field)
      time (ap (may_advertise advertise field now) told_at ∙ just_told advertise field now)

  rest_still : AreStill now local first.local
  rest_still = record { bindings = clean.kept.bindings; timers = λ x. clean.kept.timers x tt }

  rests : (delta : List Op) → Same delta [] → work g advertise field now (S ++ delta) (after_all local first.local) ≤ left_before
  rests delta none =
      rests-lowers g advertise field now S (S ++ delta) local (after_all local first.local) (same_clients g now S delta none local first.local rest_still)
      (up_yet g now S delta none local first.local rest_still advertise field) (still_due g now S delta none local first.local rest_still advertise field)
      clean.kept.advertised

  client_lowers : HaveNoGap g S → (plan : Plan) (delta : List Op) → Same delta plan.ops → (c : List ℕ) (reason : Due) → IsAmong c (clients S) → due_with g (seen_of S) local now c ≡ Some reason
      → plan_due g predefined (seen_of S) local now first c reason ≡ Some plan → left_after plan delta < left_before
  client_lowers flush plan delta same c Expiry among due e =
      expired-lowers g advertise field predefined now S local first clean c among (flush c) plan delta same due e
  client_lowers flush plan delta same c Loss among due e =
      due-lowers g advertise field predefined now S local first clean c among (flush c) plan delta same Loss (λ (is : Some Expiry ≡ Some Loss). cc) due e
  client_lowers flush plan delta same c (Retry a) among due e =
      due-lowers g advertise field predefined now S local first clean c among (flush c) plan delta same (Retry a) (λ (is : Some Expiry ≡ Some (Retry a)). cc) due e
  client_lowers flush plan delta same c (Delivery a) among due e =
      due-lowers g advertise field predefined now S local first clean c among (flush c) plan delta same (Delivery a) (λ (is : Some Expiry ≡ Some (Delivery a)). cc) due e

  abbrev Lowers : Bool → Plan → List Op → Type 0
  Lowers does plan delta = left_after plan delta + (if does then 1 else 0) ≤ left_before

  by_cases : HaveNoGap g S → (plan : Plan) (delta : List Op) → Same delta plan.ops → (time : Bool) → may_advertise advertise field now local.advertised ≡ time
      → (found : Option (List ℕ × Due)) → IfSome found (λ one. IsAmong one.0 (clients S) × (due_with g (seen_of S) local now one.0 ≡ Some one.1))
      → (if time then Some (plan_without (advertised g advertise field now first)) else plan_if_due g predefined (seen_of S) local now first found) ≡ Some plan
      → Lowers (time || is_some found) plan delta
  by_cases flush plan delta same true is found known e =
      let one : plan_without (advertised g advertise field now first) ≡ plan = same_Some (plan_without (advertised g advertise field now first)) plan e in
      let changes : plan.local ≡ first.local ++ Advertised now ∷ [] = ap (λ (p : Plan). p.local) (sym one) ∙ told_local g advertise field now first in
      at_once (left_after plan delta) left_before
      (subst (λ (xs : List LocalChange). work g advertise field now (S ++ delta) (after_all local xs) < left_before) (sym changes)
      (told delta (subst (Same delta) (ap (λ (p : Plan). p.ops) (sym one)) same) is))
  by_cases flush plan delta same false is None known e =
      let one : plan_without first ≡ plan = same_Some (plan_without first) plan e in
      at_rest (left_after plan delta) left_before
      (subst (λ (xs : List LocalChange). work g advertise field now (S ++ delta) (after_all local xs) ≤ left_before) (ap (λ (p : Plan). p.local) one)
      (rests delta (subst (Same delta) (ap (λ (p : Plan). p.ops) (sym one)) same)))
  by_cases flush plan delta same false is (Some found) known e =
      at_once (left_after plan delta) left_before (client_lowers flush plan delta same found.0 found.1 known.0 known.1 e)

  lowers : HaveNoGap g S → (plan : Plan) (delta : List Op) → Same delta plan.ops → tick g lifetime advertise field predefined (seen_of S) local now ≡ Some plan
      → Lowers (does_something g advertise field (seen_of S) local now) plan delta
  lowers flush plan delta same e =
      by_cases flush plan delta same (may_advertise advertise field now local.advertised) refl (first_due g (seen_of S) local now (clients S))
      (first-found g (seen_of S) local now (clients S)) e

  -- where nothing is to be done, nothing is to be done after the tick either
  nothing_left : (plan : Plan) (delta : List Op) → Same delta plan.ops → may_advertise advertise field now local.advertised ≡ false → first_due g (seen_of S) local now (clients S) ≡ None
      → tick g lifetime advertise field predefined (seen_of S) local now ≡ Some plan → does_something g advertise field (seen_of (S ++ delta)) (after_all local plan.local) now ≡ false
  nothing_left plan delta same no_time no_client e =
      let quiet : Some (plan_without first) ≡ Some plan =
      sym (ap (λ b. if b then Some (plan_without (advertised g advertise field now first)) else plan_if_due g predefined (seen_of S) local now first (first_due g (seen_of S) local now (clients S))) no_time
      ∙ ap (plan_if_due g predefined (seen_of S) local now first) no_client) ∙ e in
      let one : plan_without first ≡ plan = same_Some (plan_without first) plan quiet in
      let none : Same delta [] = subst (Same delta) (ap (λ (p : Plan). p.ops) (sym one)) same in
      subst (λ (xs : List LocalChange). does_something g advertise field (seen_of (S ++ delta)) (after_all local xs) now ≡ false) (ap (λ (p : Plan). p.local) one)
      ((λ i. may_advertise advertise field now (clean.kept.advertised i) || is_some (same_first g now S delta none local first.local rest_still i))
      ∙ (λ i. no_time i || is_some (no_client i)))

none_later : (later : Option (List ℕ × Due)) (c : List ℕ) (o : Option Due) → or_later later c o ≡ None → (later ≡ None) × (o ≡ None)
none_later later c None e = (e, refl)
none_later later c (Some reason) e = absurd (some_none (c, reason) e)

none_found : {X : Type 0} (o : Option X) → is_some o ≡ false → o ≡ None
none_found None e = refl
none_found (Some x) e = absurd (true≢false e)

-- ---- all ticks

at_least_one : (a b c : ℕ) → 0 < b → 0 < a + b + c
at_least_one a b c h = omega arith

at_least_time : (a b c : ℕ) → 0 < c → 0 < a + b + c
at_least_time a b c h = omega arith

one_more_than : (ticks busy left whole : ℕ) → ticks ≤ busy → 0 < left → busy + left ≤ whole → whole ≤ ticks → ⊥
one_more_than ticks busy left whole h k m n = not-le_of_lt (omega arith) n

is_false : (b : Bool) → ¬ (b ≡ true) → b ≡ false
is_false true h = absurd (h refl)
is_false false h = refl

is_true : (b : Bool) → ¬ (b ≡ false) → b ≡ true
is_true true h = refl
is_true false h = absurd (h refl)

module _ (g advertise : ℕ) (field : List Addr) (now : ℕ) where
  -- something is left to do with a client with which something is due
  due_weighs : (S : List Op) (local : Local) (c : List ℕ) (owned past : Bool) (later : Option Due) (reason : Due) → (if owned then (if past then Some Expiry else later) else None) ≡ Some reason
      → 0 < weight_of (is_some (if owned then later else None)) (owned && past)
  due_weighs S local c true true later reason e = weighs-past (is_some later) true refl
  due_weighs S local c true false None reason e = absurd (none_some reason e)
  due_weighs S local c true false (Some other) reason e = weighs-due true false refl
  due_weighs S local c false past later reason e = absurd (none_some reason e)

  found_due : (S : List Op) (local : Local) (found : Option (List ℕ × Due)) → IfSome found (λ one. IsAmong one.0 (clients S) × (due_with g (seen_of S) local now one.0 ≡ Some one.1))
      → is_some found ≡ true → 0 < weigh (weight_in g advertise field now S local) (clients S)
  found_due S local None known is = absurd (true≢false (sym is))
  found_due S local (Some found) known is =
      weigh-some (weight_in g advertise field now S local) found.0
      (due_weighs S local found.0 (is_stamp_of g (view found.0 S).stamp) (has_expired now (view found.0 S).pending (address_of found.0 local.bindings) (view found.0 S).session)
      (due_session now (view found.0 S).pending (timer_of found.0 local.timers) (address_of found.0 local.bindings) (view found.0 S).session) found.1 known.1)
      (clients S) known.0

  -- where a tick does something, something is left to do
  something_left : (S : List Op) (local : Local) → does_something g advertise field (seen_of S) local now ≡ true → 0 < work g advertise field now S local
  something_left S local is =
      let ups : ℕ = count (is_up_in g advertise field now S) (clients S) * (3 * (length (clients S) + 1)) in
      let dues : ℕ = weigh (weight_in g advertise field now S local) (clients S) in
      elim (or_cases (may_advertise advertise field now local.advertised) (is_some (first_due g (seen_of S) local now (clients S))) is) [
        | inl time ↦ at_least_time ups dues (times g advertise field now local) (subst (λ b. 0 < (if b then 1 else 0)) (sym time) (omega arith))
        | inr found ↦ at_least_one ups dues (times g advertise field now local)
            (found_due S local (first_due g (seen_of S) local now (clients S)) (first-found g (seen_of S) local now (clients S)) found)
      ]

  none_due : (S : List Op) (local : Local) (cs : List (List ℕ)) → first_due g (seen_of S) local now cs ≡ None → (c : List ℕ) → IsAmong c cs → due_with g (seen_of S) local now c ≡ None
  none_due S local [] none c h = absurd h
  none_due S local (d ∷ rest) none c h =
      let parts = none_later (first_due g (seen_of S) local now rest) d (due_with g (seen_of S) local now d) none in
      elim h [
        | inl e ↦ ap (due_with g (seen_of S) local now) e ∙ parts.1
        | inr among ↦ none_due S local rest parts.0 c among
      ]

  -- where a tick does nothing, nothing is due with any client
  pub ticks-settled : (S : List Op) (local : Local) → does_something g advertise field (seen_of S) local now ≡ false → (c : List ℕ) → due_with g (seen_of S) local now c ≡ None
  ticks-settled S local quiet c =
      let parts = or_parts (may_advertise advertise field now local.advertised) (is_some (first_due g (seen_of S) local now (clients S))) quiet in
      let none : first_due g (seen_of S) local now (clients S) ≡ None = none_found (first_due g (seen_of S) local now (clients S)) parts.1 in
      elim (is_named c S) as (λ b. is_named c S ≡ b → due_with g (seen_of S) local now c ≡ None) [
        | true ↦ λ is. none_due S local (clients S) none c (contains-among c (clients S) ((clients-named c S).0 is))
        | false ↦ λ is. ap (due_view g local now c) (unnamed-unseen c S is)
      ] refl

module _ (g lifetime advertise : ℕ) (field : List Addr) (predefined : Entries) (now : ℕ) where
  -- what is done and what is left is no more than there was
  all_at_most : (ticks : List Ticked) (S : List Op) (local : Local) → HaveNoGap g S → AreTicks g lifetime advertise field predefined now S local ticks
      → busy g advertise field now S local ticks + work g advertise field now (set_behind S ticks) (local_behind local ticks) ≤ work g advertise field now S local
  all_at_most [] S local flush h = at_zero (work g advertise field now S local)
  all_at_most (t ∷ rest) S local flush h =
      together (if does_something g advertise field (seen_of S) local now then 1 else 0) (busy g advertise field now (S ++ t.delta) (after_all local t.plan.local) rest)
      (work g advertise field now (set_behind (S ++ t.delta) rest) (local_behind (after_all local t.plan.local) rest))
      (work g advertise field now (S ++ t.delta) (after_all local t.plan.local)) (work g advertise field now S local)
      (all_at_most rest (S ++ t.delta) (after_all local t.plan.local)
      (step-flush g S t.plan (tick-drafted g lifetime advertise field predefined S local now t.plan h.0) t.delta h.1 flush) h.2)
      (lowers g lifetime advertise field predefined now S local flush t.plan t.delta h.1 h.0)

  all_of_it : (S : List Op) (local : Local) (ticks : List Ticked) → HaveNoGap g S → AreTicks g lifetime advertise field predefined now S local ticks
      → busy g advertise field now S local ticks + work g advertise field now (set_behind S ticks) (local_behind local ticks) ≤ 3 * ((length (clients S) + 1) * (length (clients S) + 1))
  all_of_it S local ticks flush h = le_trans (all_at_most ticks S local flush h) (work-whole g advertise field now S local)

  pub ticks-bound : (S : List Op) (local : Local) (ticks : List Ticked) → HaveNoGap g S → AreTicks g lifetime advertise field predefined now S local ticks
      → busy g advertise field now S local ticks ≤ 3 * ((length (clients S) + 1) * (length (clients S) + 1))
  ticks-bound S local ticks flush h =
      le_trans (le-add_right (busy g advertise field now S local ticks) (work g advertise field now (set_behind S ticks) (local_behind local ticks))) (all_of_it S local ticks flush h)

  one_rests : (S : List Op) (local : Local) (plan : Plan) (delta : List Op) → does_something g advertise field (seen_of S) local now ≡ false
      → tick g lifetime advertise field predefined (seen_of S) local now ≡ Some plan → Same delta plan.ops
      → does_something g advertise field (seen_of (S ++ delta)) (after_all local plan.local) now ≡ false
  one_rests S local plan delta quiet e same =
      let parts = or_parts (may_advertise advertise field now local.advertised) (is_some (first_due g (seen_of S) local now (clients S))) quiet in
      nothing_left g lifetime advertise field predefined now S local plan delta same parts.0 (none_found (first_due g (seen_of S) local now (clients S)) parts.1) e

  -- once there is nothing to do, there is nothing to do after more ticks
  pub ticks-rest : (S : List Op) (local : Local) (ticks : List Ticked) → AreTicks g lifetime advertise field predefined now S local ticks → does_something g advertise field (seen_of S) local now ≡ false
      → does_something g advertise field (seen_of (set_behind S ticks)) (local_behind local ticks) now ≡ false
  ticks-rest S local [] h quiet = quiet
  ticks-rest S local (t ∷ rest) h quiet =
      ticks-rest (S ++ t.delta) (after_all local t.plan.local) rest h.2 (one_rests S local t.plan t.delta quiet h.0 h.1)

  -- where there is something to do after them, all of them did something
  all_busy : (S : List Op) (local : Local) (ticks : List Ticked) → AreTicks g lifetime advertise field predefined now S local ticks
      → does_something g advertise field (seen_of (set_behind S ticks)) (local_behind local ticks) now ≡ true → length ticks ≤ busy g advertise field now S local ticks
  all_busy S local [] h is = omega arith
  all_busy S local (t ∷ rest) h is =
      let here : does_something g advertise field (seen_of S) local now ≡ true =
      is_true (does_something g advertise field (seen_of S) local now) (λ quiet. true≢false (sym is ∙ ticks-rest S local (t ∷ rest) h quiet)) in
      subst (λ b. length (t ∷ rest) ≤ (if b then 1 else 0) + busy g advertise field now (S ++ t.delta) (after_all local t.plan.local) rest) (sym here)
      (one_and (length rest) (busy g advertise field now (S ++ t.delta) (after_all local t.plan.local) rest) (all_busy (S ++ t.delta) (after_all local t.plan.local) rest h.2 is))

  pub ticks-end : (S : List Op) (local : Local) (ticks : List Ticked) → HaveNoGap g S → AreTicks g lifetime advertise field predefined now S local ticks
      → 3 * ((length (clients S) + 1) * (length (clients S) + 1)) ≤ length ticks
      → does_something g advertise field (seen_of (set_behind S ticks)) (local_behind local ticks) now ≡ false
  ticks-end S local ticks flush h long =
      is_false (does_something g advertise field (seen_of (set_behind S ticks)) (local_behind local ticks) now)
      (λ is. one_more_than (length ticks) (busy g advertise field now S local ticks) (work g advertise field now (set_behind S ticks) (local_behind local ticks))
      (3 * ((length (clients S) + 1) * (length (clients S) + 1))) (all_busy S local ticks h is)
      (something_left g advertise field now (set_behind S ticks) (local_behind local ticks) is) (all_of_it S local ticks flush h) long)
