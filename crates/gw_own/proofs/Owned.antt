-- Whoever has an address or a timer stays the gateway's, where an operation or a change does not say otherwise.
use Rattle.std.proofs.Common.{◌≡◌, ℕ, Bool, true, false, cond, not, ◌&&◌, ◌||◌, ◌==◌, List, [], ◌∷◌, ◌++◌, map, filter, filter_map, Option, Some, None, is_none, refl, sym, ap, ◌∙◌, subst, true≢false, append-nil, if◌then◌else◌}
use Rattle.std.specs.List.{list_all, list_any, cons_option}
use Rattle.std.proofs.lemmas.Bool.{and_parts, and_from, or_right}
use Rattle.std.proofs.lemmas.List.Elements.{filter_map-append}
use Rattle.rep_op.specs.declared.op.Stamp.{Stamp}
use Rattle.rep_op.specs.declared.op.Op.{Op}
use Rattle.rep_op.specs.declared.op.Op.TheVariants.{Session as OfSession, Put as OfPut, Ack, Retain as OfRetain}
use Rattle.rep_op.specs.Orders.{stamp_cmp}
use Rattle.rep_op.specs.Sets.{same_client, operation_of, operations}
use Rattle.rep_model.specs.Views.{greatest, take_stamp, names, visible}
use Rattle.rep_model.specs.Keep.{IsKeptOf}
use Rattle.rep_model.proofs.Readers.{same_client-true}
use Rattle.rep_model.proofs.Thin.{visible-thin, thin-between}
use Rattle.sn_local.specs.declared.local.Binding.{Binding}
use Rattle.sn_local.specs.declared.local.Timer.{Timer}
use Rattle.sn_local.specs.declared.local.LocalChange.{LocalChange}
use Rattle.sn_local.specs.declared.local.LocalChange.TheVariants.{Bind, Unbind, Time, Heard, Sent, Resent, Retried, Ask, EndDialog, Advertised}
use Rattle.sn_local.specs.Seen.{Seen, seen_of}
use Rattle.sn_local.specs.Locals.{Local, after_all, owned}
use Rattle.sn_local.specs.Bindings.{binding_cmp, is_other_binding, is_of_other, binding_change, bindings_after, address_of, is_stamp_of, is_owned, has_owned}
use Rattle.sn_local.specs.Timers.{timer_cmp, timer_of, heard_at, sent_at, resent_at, retried_at, timer_change, timers_after, times_owned}
use Rattle.sn_local.proofs.Entries.{same_client-itself}
use Rattle.sn_plan.proofs.Entered.{all-entered, all-filtered}
use Rattle.gw_own.specs.Tidy.{are_owned, WereOwned}
use Rattle.gw_own.specs.inner.Tidy.{tidied, is_stranger, leaves_all, notes_owned}

-- ---- lists

module _ {E : Type 0} (p : E → Bool) where
  pub filter_all : (xs : List E) → list_all p xs ≡ true → filter p xs ≡ xs
  filter_all [] all = refl
  filter_all (x ∷ xs) all =
      let parts = and_parts (p x) (list_all p xs) all in
      ap (λ b. cond b (x ∷ filter p xs) (filter p xs)) parts.0 ∙ ap (λ ys. x ∷ ys) (filter_all xs parts.1)

  pub filtered_all : (xs : List E) → list_all p (filter p xs) ≡ true
  filtered_all [] = refl
  filtered_all (x ∷ xs) = elim (p x) as (λ b. p x ≡ b → list_all p (cond b (x ∷ filter p xs) (filter p xs)) ≡ true) [
    | true ↦ λ e. and_from (p x) (list_all p (filter p xs)) e (filtered_all xs)
    | false ↦ λ e. filtered_all xs
  ] refl

-- what is so of each client that an entry is of
module _ {E : Type 0} (client : E → List ℕ) (old new : List ℕ → Bool) where
  all_stay : (xs : List E) → ((c : List ℕ) → list_any (λ x. same_client (client x) c) xs ≡ true → old c ≡ true → new c ≡ true) → list_all (λ x. old (client x)) xs ≡ true → list_all (λ x. new (client x)) xs ≡ true
  all_stay [] h all = refl
  all_stay (x ∷ xs) h all =
      let parts = and_parts (old (client x)) (list_all (λ y. old (client y)) xs) all in
      and_from (new (client x)) (list_all (λ y. new (client y)) xs)
      (h (client x) (ap (λ b. b || list_any (λ y. same_client (client y) (client x)) xs) (same_client-itself (client x))) parts.0)
      (all_stay xs (λ c any before. h c (or_right (same_client (client x) c) (list_any (λ y. same_client (client y) c) xs) any) before) parts.1)

map_both : {A B : Type 0} (f : A → B) (xs ys : List A) → map f (xs ++ ys) ≡ map f xs ++ map f ys
map_both f [] ys = refl
map_both f (x ∷ xs) ys = ap (λ zs. f x ∷ zs) (map_both f xs ys)

-- ---- clients that the gateway owns

module _ (g : ℕ) (seen : Seen) where
  pub owned_stay : (local : Local) → are_owned g seen local ≡ true → owned g seen local ≡ local
  owned_stay local all =
      let parts = and_parts (list_all (has_owned g seen) local.bindings) (list_all (times_owned g seen) local.timers) all in
      λ i. record { bindings = filter_all (has_owned g seen) local.bindings parts.0 i; dialogs = local.dialogs; timers = filter_all (times_owned g seen) local.timers parts.1 i; advertised = local.advertised }

  pub owned_are_owned : (local : Local) → are_owned g seen (owned g seen local) ≡ true
  owned_are_owned local =
      and_from (list_all (has_owned g seen) (filter (has_owned g seen) local.bindings)) (list_all (times_owned g seen) (filter (times_owned g seen) local.timers))
      (filtered_all (has_owned g seen) local.bindings) (filtered_all (times_owned g seen) local.timers)

  binding_stays : (change : LocalChange) (bs : List Binding) → list_all (has_owned g seen) bs ≡ true → notes_owned g seen change ≡ true → list_all (has_owned g seen) (binding_change bs change) ≡ true
  binding_stays (Bind a c) bs all h = all-entered (has_owned g seen) binding_cmp (record { address = a; client = c }) (filter (is_other_binding a c) bs) h (all-filtered (has_owned g seen) (is_other_binding a c) bs all)
  binding_stays (Unbind c) bs all h = all-filtered (has_owned g seen) (is_of_other c) bs all
  binding_stays (Time timer) bs all h = all
  binding_stays (Heard c now) bs all h = all
  binding_stays (Sent c now) bs all h = all
  binding_stays (Resent c now) bs all h = all
  binding_stays (Retried c now) bs all h = all
  binding_stays (Ask dialog) bs all h = all
  binding_stays (EndDialog a) bs all h = all
  binding_stays (Advertised now) bs all h = all

  bindings_stay : (changes : List LocalChange) (bs : List Binding) → list_all (has_owned g seen) bs ≡ true → list_all (notes_owned g seen) changes ≡ true → list_all (has_owned g seen) (bindings_after bs changes) ≡ true
  bindings_stay [] bs all h = all
  bindings_stay (change ∷ rest) bs all h =
      let parts = and_parts (notes_owned g seen change) (list_all (notes_owned g seen) rest) h in
      bindings_stay rest (binding_change bs change) (binding_stays change bs all parts.0) parts.1

  heard_owned : (c : List ℕ) (now : ℕ) (o : Option Timer) → is_owned g seen c ≡ true → times_owned g seen (heard_at c now o) ≡ true
  heard_owned c now None h = h
  heard_owned c now (Some timer) h = h

  sent_owned : (c : List ℕ) (now : ℕ) (o : Option Timer) → is_owned g seen c ≡ true → times_owned g seen (sent_at c now o) ≡ true
  sent_owned c now None h = h
  sent_owned c now (Some timer) h = h

  resent_owned : (c : List ℕ) (now : ℕ) (o : Option Timer) → is_owned g seen c ≡ true → times_owned g seen (resent_at c now o) ≡ true
  resent_owned c now None h = h
  resent_owned c now (Some timer) h = h

  retried_owned : (c : List ℕ) (now : ℕ) (o : Option Timer) → is_owned g seen c ≡ true → times_owned g seen (retried_at c now o) ≡ true
  retried_owned c now None h = h
  retried_owned c now (Some timer) h = h

  timer_stays : (change : LocalChange) (ts : List Timer) → list_all (times_owned g seen) ts ≡ true → notes_owned g seen change ≡ true → list_all (times_owned g seen) (timer_change ts change) ≡ true
  timer_stays (Bind a c) ts all h = all
  timer_stays (Unbind c) ts all h = all
  timer_stays (Time timer) ts all h = all-entered (times_owned g seen) timer_cmp timer ts h all
  timer_stays (Heard c now) ts all h = all-entered (times_owned g seen) timer_cmp (heard_at c now (timer_of c ts)) ts (heard_owned c now (timer_of c ts) h) all
  timer_stays (Sent c now) ts all h = all-entered (times_owned g seen) timer_cmp (sent_at c now (timer_of c ts)) ts (sent_owned c now (timer_of c ts) h) all
  timer_stays (Resent c now) ts all h = all-entered (times_owned g seen) timer_cmp (resent_at c now (timer_of c ts)) ts (resent_owned c now (timer_of c ts) h) all
  timer_stays (Retried c now) ts all h = all-entered (times_owned g seen) timer_cmp (retried_at c now (timer_of c ts)) ts (retried_owned c now (timer_of c ts) h) all
  timer_stays (Ask dialog) ts all h = all
  timer_stays (EndDialog a) ts all h = all
  timer_stays (Advertised now) ts all h = all

  timers_stay : (changes : List LocalChange) (ts : List Timer) → list_all (times_owned g seen) ts ≡ true → list_all (notes_owned g seen) changes ≡ true → list_all (times_owned g seen) (timers_after ts changes) ≡ true
  timers_stay [] ts all h = all
  timers_stay (change ∷ rest) ts all h =
      let parts = and_parts (notes_owned g seen change) (list_all (notes_owned g seen) rest) h in
      timers_stay rest (timer_change ts change) (timer_stays change ts all parts.0) parts.1

  -- changes that note nobody else
  pub owned_after : (local : Local) (changes : List LocalChange) → are_owned g seen local ≡ true → list_all (notes_owned g seen) changes ≡ true → are_owned g seen (after_all local changes) ≡ true
  owned_after local changes all h =
      let parts = and_parts (list_all (has_owned g seen) local.bindings) (list_all (times_owned g seen) local.timers) all in
      and_from (list_all (has_owned g seen) (bindings_after local.bindings changes)) (list_all (times_owned g seen) (timers_after local.timers changes))
      (bindings_stay changes local.bindings parts.0 h) (timers_stay changes local.timers parts.1 h)

-- ---- operations that leave the gateway its clients

no_binding : (c : List ℕ) (bs : List Binding) → is_none (address_of c bs) ≡ true → list_any (λ b. same_client b.client c) bs ≡ false
no_binding c [] h = refl
no_binding c (b ∷ rest) h = elim (same_client b.client c) as (λ z. is_none (if z then Some b.address else address_of c rest) ≡ true → (z || list_any (λ b. same_client b.client c) rest) ≡ false) [
  | true ↦ λ h. absurd (true≢false (sym h))
  | false ↦ λ h. no_binding c rest h
] h

no_timer : (c : List ℕ) (ts : List Timer) → is_none (timer_of c ts) ≡ true → list_any (λ t. same_client t.client c) ts ≡ false
no_timer c [] h = refl
no_timer c (t ∷ rest) h = elim (same_client t.client c) as (λ z. is_none (if z then Some t else timer_of c rest) ≡ true → (z || list_any (λ t. same_client t.client c) rest) ≡ false) [
  | true ↦ λ h. absurd (true≢false (sym h))
  | false ↦ λ h. no_timer c rest h
] h

-- whether the operation is a Take of the client
abbrev takes_it : List ℕ → Op → Bool
takes_it c (OfSession d stamp counter change) = same_client c d && (counter == 0)
takes_it c (OfPut d put) = false
takes_it c (Ack d origin first last) = false
takes_it c (OfRetain t k) = false

no_takes : (c : List ℕ) (D : List Op) → list_any (takes_it c) D ≡ false → filter_map take_stamp (names (operations c D)) ≡ []
no_takes c [] h = refl
no_takes c (OfSession d s k x ∷ rest) h = elim (same_client c d) as (λ z. ((z && (k == 0)) || list_any (takes_it c) rest) ≡ false → filter_map take_stamp (names (cons_option (if z then Some ((s, k), x) else None) (operations c rest))) ≡ []) [
  | true ↦ λ h. elim (k == 0) as (λ z. (z || list_any (takes_it c) rest) ≡ false → cons_option (if z then Some s else None) (filter_map take_stamp (names (operations c rest))) ≡ []) [
    | true ↦ λ h. absurd (true≢false h)
    | false ↦ λ h. no_takes c rest h
  ] h
  | false ↦ λ h. no_takes c rest h
] h
no_takes c (OfPut d put ∷ rest) h = no_takes c rest h
no_takes c (Ack d origin first last ∷ rest) h = no_takes c rest h
no_takes c (OfRetain t k ∷ rest) h = no_takes c rest h

visible_same : (c : List ℕ) (K D : List Op) → list_any (takes_it c) D ≡ false → visible c (K ++ D) ≡ visible c K
visible_same c K D h =
    ap (λ ops. greatest stamp_cmp (filter_map take_stamp (names ops))) (filter_map-append (operation_of c) K D)
    ∙ ap (λ ns. greatest stamp_cmp (filter_map take_stamp ns)) (map_both (λ e. e.0) (operations c K) (operations c D))
    ∙ ap (greatest stamp_cmp) (filter_map-append take_stamp (names (operations c K)) (names (operations c D))
    ∙ ap (λ xs. filter_map take_stamp (names (operations c K)) ++ xs) (no_takes c D h) ∙ append-nil (filter_map take_stamp (names (operations c K))))

-- a client whose Take is there
left_one : (g : ℕ) (seen : Seen) (local : Local) (c : List ℕ) (D : List Op) → list_any (takes_it c) D ≡ true → list_all (leaves_all g seen local) D ≡ true → (is_owned g seen c || is_stranger c local) ≡ true
left_one g seen local c [] any all = absurd (true≢false (sym any))
left_one g seen local c (OfSession d s k x ∷ rest) any all =
    let parts = and_parts (leaves_all g seen local (OfSession d s k x)) (list_all (leaves_all g seen local) rest) all in
    elim (same_client c d && (k == 0)) as (λ b. (same_client c d && (k == 0)) ≡ b → (b || list_any (takes_it c) rest) ≡ true → (is_owned g seen c || is_stranger c local) ≡ true) [
      | true ↦ λ e _.
          let both = and_parts (same_client c d) (k == 0) e in
          let here : (is_owned g seen d || is_stranger d local) ≡ true = sym (ap (λ z. not z || (is_owned g seen d || is_stranger d local)) both.1) ∙ parts.0 in
          subst (λ (y : List ℕ). (is_owned g seen y || is_stranger y local) ≡ true) (sym (same_client-true c d both.0)) here
      | false ↦ λ _ more. left_one g seen local c rest more parts.1
    ] refl any
left_one g seen local c (OfPut d put ∷ rest) any all = left_one g seen local c rest any all
left_one g seen local c (Ack d origin first last ∷ rest) any all = left_one g seen local c rest any all
left_one g seen local c (OfRetain t k ∷ rest) any all = left_one g seen local c rest any all

or_first : (a b : Bool) → (a || b) ≡ true → (b ≡ true → ⊥) → a ≡ true
or_first true b h fails = refl
or_first false b h fails = absurd (fails h)

module _ (g : ℕ) (K D kept : List Op) (taken : IsKeptOf (K ++ D) kept) (local : Local) (leaves : list_all (leaves_all g (seen_of kept) local) D ≡ true) where
  one_stays : (c : List ℕ) → (is_stranger c local ≡ true → ⊥) → is_owned g (seen_of K) c ≡ true → is_owned g (seen_of kept) c ≡ true
  one_stays c known own = elim (list_any (takes_it c) D) as (λ b. list_any (takes_it c) D ≡ b → is_owned g (seen_of kept) c ≡ true) [
    | false ↦ λ e. ap (is_stamp_of g) (visible-thin kept (K ++ D) (thin-between (K ++ D) kept taken) c ∙ visible_same c K D e) ∙ own
    | true ↦ λ e. or_first (is_owned g (seen_of kept) c) (is_stranger c local) (left_one g (seen_of kept) local c D e leaves) known
  ] refl

  pub owned_left : are_owned g (seen_of K) local ≡ true → are_owned g (seen_of kept) local ≡ true
  owned_left all =
      let parts = and_parts (list_all (has_owned g (seen_of K)) local.bindings) (list_all (times_owned g (seen_of K)) local.timers) all in
      and_from (list_all (has_owned g (seen_of kept)) local.bindings) (list_all (times_owned g (seen_of kept)) local.timers)
      (all_stay (λ (b : Binding). b.client) (is_owned g (seen_of K)) (is_owned g (seen_of kept)) local.bindings
      (λ c any own. one_stays c (λ s. true≢false (sym any ∙ no_binding c local.bindings (and_parts (is_none (address_of c local.bindings)) (is_none (timer_of c local.timers)) s).0)) own) parts.0)
      (all_stay (λ (t : Timer). t.client) (is_owned g (seen_of K)) (is_owned g (seen_of kept)) local.timers
      (λ c any own. one_stays c (λ s. true≢false (sym any ∙ no_timer c local.timers (and_parts (is_none (address_of c local.bindings)) (is_none (timer_of c local.timers)) s).1)) own) parts.1)

-- where that was known before
pub still_owned : (g : ℕ) (kept ops : List Op) (local : Local) → WereOwned g kept ops local → list_all (leaves_all g (seen_of kept) local) ops ≡ true → are_owned g (seen_of kept) local ≡ true
still_owned g kept ops local were leaves = owned_left g were.before ops kept were.taken local leaves were.owned

-- ---- what a node remembers

pub tidied_if : (known : Bool) (g : ℕ) (kept : List Op) (local : Local) → (known ≡ true → are_owned g (seen_of kept) local ≡ true) → tidied known g kept local ≡ true
tidied_if true g kept local h = h refl
tidied_if false g kept local h = refl

-- what is known, where it is known
pub known_of : (known : Bool) (g : ℕ) (kept : List Op) (local : Local) → tidied known g kept local ≡ true → known ≡ true → are_owned g (seen_of kept) local ≡ true
known_of true g kept local h e = h
known_of false g kept local h e = absurd (true≢false (sym e))

-- after changes that note nobody else, where that was asked
pub tidied_noted : (known : Bool) (g : ℕ) (kept : List Op) (local : Local) (changes : List LocalChange) → tidied known g kept local ≡ true → tidied (known && list_all (notes_owned g (seen_of kept)) changes) g kept (after_all local changes) ≡ true
tidied_noted false g kept local changes h = refl
tidied_noted true g kept local changes h =
    tidied_if (list_all (notes_owned g (seen_of kept)) changes) g kept (after_all local changes) (owned_after g (seen_of kept) local changes h)
