-- Bindings that ascend by address: where one stands or would go, and what a new one makes of them.
use Rattle.std.proofs.Common.{◌≡◌, ℕ, zero, suc, Bool, true, false, not, ◌&&◌, ◌==◌, if◌then◌else◌, cond, List, [], ◌∷◌, filter, get_or, set, Some, None, refl, sym, ap, subst, ◌∙◌, true≢false}
use Rattle.std.specs.declared.cmp.Ordering.{Ordering}
use Rattle.std.specs.declared.cmp.Ordering.TheVariants.{Less, Equal, Greater}
use Rattle.std.specs.Ordering.{is_eq, nat_cmp, ordering_then, ordering_reverse}
use Rattle.std.specs.Cmp.{IsTotalOrder}
use Rattle.std.specs.Cmp.Lexicographic.{nat_list_eq_equiv}
use Rattle.std.specs.List.{AllByRecursion, IsDistinct, insert}
use Rattle.std.proofs.lemmas.Bool.{and_parts}
use Rattle.std.proofs.lemmas.Cmp.{then_total, on_total, nat_cmp_total}
use Rattle.std.proofs.lemmas.Map.Lookups.{CmpEqualImpliesEq, exact_unsigned, exact_pairs}
use Rattle.sn_tables.specs.Tables.{with_entry, by_order}
use Rattle.sn_tables.specs.inner.Tables.{AllAbove, IsFoundAt, IsGap}
use Rattle.sn_tables.proofs.Ascending.{all_filter, all_with, from_test, to_test, ascends_filter, ascends_with}
use Rattle.sn_tables.proofs.Numbers.{tied, lower, higher}
use Rattle.sn_tables.proofs.Places.{with_at, with_gap}
use Rattle.rep_op.specs.Sets.{same_client}
use Rattle.sn_local.specs.declared.config.Addr.{Addr}
use Rattle.sn_local.specs.declared.local.Binding.{Binding}
use Rattle.sn_local.specs.Bindings.{address_cmp, binding_cmp, same_address, of_one_client, is_other_binding, bound, client_at, AreBindings}

-- ---- addresses

pub address_total : IsTotalOrder address_cmp
address_total = then_total (on_total (λ (a : Addr). a.host) nat_cmp_total) (on_total (λ (a : Addr). a.port) nat_cmp_total)

pub binding_total : IsTotalOrder binding_cmp
binding_total = on_total (λ (b : Binding). b.address) address_total

pub address_exact : CmpEqualImpliesEq address_cmp
address_exact a b e =
    let p = exact_pairs nat_cmp nat_cmp exact_unsigned exact_unsigned (a.host, a.port) (b.host, b.port) e in
    λ i. record { host = (p i).0; port = (p i).1 }

number_ties : (x y : ℕ) → (x == y) ≡ is_eq (nat_cmp x y)
number_ties x y = elim (nat_cmp x y) as (λ o. nat_cmp x y ≡ o → (x == y) ≡ is_eq o) [ Less ↦ lower x y | Equal ↦ tied x y | Greater ↦ higher x y ] refl

both_equal : (o p : Ordering) → is_eq o && is_eq p ≡ is_eq (ordering_then o p)
both_equal Less p = refl
both_equal Equal p = refl
both_equal Greater p = refl

-- addresses are the same where the comparison says equal
pub address_ties : (a b : Addr) → same_address a b ≡ is_eq (address_cmp a b)
address_ties a b =
    ap (λ t. t && (a.port == b.port)) (number_ties a.host b.host) ∙ ap (λ t. is_eq (nat_cmp a.host b.host) && t) (number_ties a.port b.port)
    ∙ both_equal (nat_cmp a.host b.host) (nat_cmp a.port b.port)

-- how each binding compares with an address
abbrev pub by_address : Addr → Binding → Ordering
by_address a b = address_cmp b.address a

turns : (e x : Binding) → binding_cmp e x ≡ ordering_reverse (by_address e.address x)
turns e x = address_total.antisymm e.address x.address

at_address : (a : Addr) (x : Binding) (o : Ordering) → by_address a x ≡ o → same_address x.address a ≡ is_eq o
at_address a x o h = address_ties x.address a ∙ ap is_eq h

-- ---- where a binding stands

module _ (a : Addr) where
  above : (xs : List Binding) → AllAbove (by_address a) xs → client_at a xs ≡ None
  above [] h = refl
  above (x ∷ xs) h = ap (λ t. if t then Some x.client else client_at a xs) (at_address a x Greater h.0) ∙ above xs h.1

  pub absent : (xs : List Binding) (i : ℕ) → IsGap (by_address a) xs i → client_at a xs ≡ None
  absent xs zero h = above xs h
  absent [] (suc i) h = absurd h
  absent (x ∷ xs) (suc i) h = ap (λ t. if t then Some x.client else client_at a xs) (at_address a x Less h.0) ∙ absent xs i h.1

  pub found : (xs : List Binding) (i : ℕ) (d : Binding) → IsFoundAt (by_address a) xs i → client_at a xs ≡ Some (get_or xs i d).client
  found [] i d h = absurd h
  found (x ∷ xs) zero d h = ap (λ t. if t then Some x.client else client_at a xs) (at_address a x Equal h.0)
  found (x ∷ xs) (suc i) d h = ap (λ t. if t then Some x.client else client_at a xs) (at_address a x Less h.0) ∙ found xs i d h.1

-- a binding put in its place
module _ (e : Binding) (xs : List Binding) (i : ℕ) where
  pub set_is : IsFoundAt (by_address e.address) xs i → set xs i e ≡ with_entry binding_cmp e xs
  set_is h = sym (with_at (by_address e.address) binding_cmp e (turns e) xs i h)

  pub insert_is : IsGap (by_address e.address) xs i → insert xs i e ≡ with_entry binding_cmp e xs
  insert_is h = sym (with_gap (by_address e.address) binding_cmp e (turns e) xs i h)

-- ---- no client has two

client_turned : (c d : List ℕ) (b : Bool) → same_client c d ≡ b → same_client d c ≡ b
client_turned c d b h = nat_list_eq_equiv.symm d c ∙ h

distinct_with : (e : Binding) (xs : List Binding) → AllByRecursion (λ y. of_one_client e y ≡ false) xs → IsDistinct of_one_client xs
    → IsDistinct of_one_client (with_entry binding_cmp e xs)
unfolding IsDistinct
distinct_with e [] h d = (tt, tt)
distinct_with e (x ∷ xs) h d =
    elim (binding_cmp e x) as (λ o. IsDistinct of_one_client (by_order o (e ∷ x ∷ xs) (e ∷ xs) (x ∷ with_entry binding_cmp e xs))) [
      | Less ↦ (h, d)
      | Equal ↦ (h.1, d.1)
      | Greater ↦ (all_with binding_cmp (λ y. of_one_client x y ≡ false) e xs (client_turned e.client x.client false h.0) d.0, distinct_with e xs h.1 d.1)
    ]

distinct_filter : (keeps : Binding → Bool) (xs : List Binding) → IsDistinct of_one_client xs → IsDistinct of_one_client (filter keeps xs)
unfolding IsDistinct
distinct_filter keeps [] d = tt
distinct_filter keeps (x ∷ xs) d =
    elim (keeps x) as (λ b. IsDistinct of_one_client (cond b (x ∷ filter keeps xs) (filter keeps xs))) [
      | true ↦ (all_filter (λ y. of_one_client x y ≡ false) keeps xs d.0, distinct_filter keeps xs d.1)
      | false ↦ distinct_filter keeps xs d.1
    ]

-- ---- what stays of the bindings

-- no bindings
pub are_none : AreBindings []
unfolding IsDistinct
are_none = (refl, tt)

-- some of the bindings
pub are_filter : (keeps : Binding → Bool) (xs : List Binding) → AreBindings xs → AreBindings (filter keeps xs)
are_filter keeps xs h =
    (to_test binding_cmp (filter keeps xs) (ascends_filter binding_cmp keeps xs (from_test binding_cmp binding_total xs h.0)), distinct_filter keeps xs h.1)

not_true : (b : Bool) → not b ≡ true → b ≡ false
not_true true e = absurd (true≢false (sym e))
not_true false e = refl

-- what is kept beside a new binding is of other clients
others : (a : Addr) (c : List ℕ) (xs : List Binding) → AllByRecursion (λ y. same_client c y.client ≡ false) (filter (is_other_binding a c) xs)
others a c [] = tt
others a c (x ∷ xs) =
    elim (is_other_binding a c x) as (λ b. is_other_binding a c x ≡ b → AllByRecursion (λ y. same_client c y.client ≡ false) (cond b (x ∷ filter (is_other_binding a c) xs) (filter (is_other_binding a c) xs))) [
      | true ↦ λ e. (client_turned x.client c false (not_true (same_client x.client c) (and_parts (not (same_address x.address a)) (not (same_client x.client c)) e).1), others a c xs)
      | false ↦ λ _. others a c xs
    ] refl

-- the bindings with a new one
pub are_bound : (a : Addr) (c : List ℕ) (xs : List Binding) → AreBindings xs → AreBindings (bound a c xs)
are_bound a c xs h =
    let e : Binding = record { address = a; client = c } in
    let kept = are_filter (is_other_binding a c) xs h in (
      to_test binding_cmp (bound a c xs) (ascends_with binding_cmp binding_total e (filter (is_other_binding a c) xs) (from_test binding_cmp binding_total (filter (is_other_binding a c) xs) kept.0)),
      distinct_with e (filter (is_other_binding a c) xs) (others a c xs) kept.1,
    )

-- ---- a binding that is there already

module _ (a : Addr) (c : List ℕ) where
  abbrev new : Binding
  new = record { address = a; client = c }

  kept_apart : (x : Binding) → same_address x.address a ≡ false → same_client x.client c ≡ false → is_other_binding a c x ≡ true
  kept_apart x h k = ap (λ t. not t && not (same_client x.client c)) h ∙ ap not k

  all_apart : (xs : List Binding) → AllAbove (by_address a) xs → AllByRecursion (λ y. same_client c y.client ≡ false) xs → filter (is_other_binding a c) xs ≡ xs
  all_apart [] h d = refl
  all_apart (x ∷ xs) h d =
      ap (λ t. cond t (x ∷ filter (is_other_binding a c) xs) (filter (is_other_binding a c) xs)) (kept_apart x (at_address a x Greater h.0) (client_turned c x.client false d.0))
      ∙ ap (λ ys. x ∷ ys) (all_apart xs h.1 d.1)

  -- the client of a later binding is not that of the first
  first_apart : (x : Binding) (xs : List Binding) (i : ℕ) (d : Binding) → IsFoundAt (by_address a) xs i → AllByRecursion (λ y. of_one_client x y ≡ false) xs
      → (get_or xs i d).client ≡ c → same_client x.client c ≡ false
  first_apart x [] i d h k is = absurd h
  first_apart x (y ∷ ys) zero d h k is = ap (λ e. same_client x.client e) (sym is) ∙ k.0
  first_apart x (y ∷ ys) (suc i) d h k is = first_apart x ys i d h.1 k.1 is

  pub bound_same : (xs : List Binding) (i : ℕ) (d : Binding) → IsFoundAt (by_address a) xs i → IsDistinct of_one_client xs → (get_or xs i d).client ≡ c → bound a c xs ≡ xs
  unfolding IsDistinct
  bound_same [] i d h k is = absurd h
  bound_same (x ∷ xs) zero d h k is =
      let own : is_other_binding a c x ≡ false = ap (λ t. not t && not (same_client x.client c)) (at_address a x Equal h.0) in
      let others : AllByRecursion (λ y. same_client c y.client ≡ false) xs = subst (λ e. AllByRecursion (λ y. same_client e y.client ≡ false) xs) is k.0 in
      let same : x ≡ new = λ i. record { address = address_exact x.address a h.0 i; client = is i } in
      ap (λ t. with_entry binding_cmp new (cond t (x ∷ filter (is_other_binding a c) xs) (filter (is_other_binding a c) xs))) own
      ∙ ap (with_entry binding_cmp new) (all_apart xs h.1 others)
      ∙ with_gap (by_address a) binding_cmp new (turns new) xs zero h.1
      ∙ ap (λ e. e ∷ xs) (sym same)
  bound_same (x ∷ xs) (suc i) d h k is =
      let other : is_other_binding a c x ≡ true = kept_apart x (at_address a x Less h.0) (first_apart x xs i d h.1 k.0 is) in
      ap (λ t. with_entry binding_cmp new (cond t (x ∷ filter (is_other_binding a c) xs) (filter (is_other_binding a c) xs))) other
      ∙ ap (λ o. by_order o (new ∷ x ∷ filter (is_other_binding a c) xs) (new ∷ filter (is_other_binding a c) xs) (x ∷ bound a c xs)) (turns new x ∙ ap ordering_reverse h.0)
      ∙ ap (λ ys. x ∷ ys) (bound_same xs i d h.1 k.1 is)
