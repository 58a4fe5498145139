-- A new binding is the only one of its address and of its client.
use Rattle.std.proofs.Common.{◌≡◌, ℕ, Bool, true, false, not, ◌==◌, ◌⊎◌, if◌then◌else◌, List, [], ◌∷◌, filter, cond, Some, Contains, refl, sym, ap, ◌∙◌, true≢false, inl, inr, eq-eqb}
use Rattle.std.specs.declared.cmp.Ordering.TheVariants.{Less, Equal, Greater}
use Rattle.std.specs.List.{AllByRecursion}
use Rattle.std.proofs.lemmas.Bool.{and_parts, and_from}
use Rattle.std.proofs.lemmas.List.Elements.{All-from_recursion, All-contains}
use Rattle.sn_tables.specs.Tables.{with_entry, by_order}
use Rattle.sn_tables.proofs.Ascending.{all_weaker, all_with}
use Rattle.rep_op.specs.Sets.{same_client}
use Rattle.sn_local.specs.declared.config.Addr.{Addr}
use Rattle.sn_local.specs.declared.local.Binding.{Binding}
use Rattle.sn_local.specs.Bindings.{same_address, binding_cmp, is_other_binding, bound, client_at}
use Rattle.sn_local.proofs.Entries.{same_client-itself}

same_address-itself : (a : Addr) → same_address a a ≡ true
same_address-itself a = and_from (a.host == a.host) (a.port == a.port) (eq-eqb a.host a.host refl) (eq-eqb a.port a.port refl)

pub all-kept : {X : Type 0} (p : X → Bool) (xs : List X) → AllByRecursion (λ x. p x ≡ true) (filter p xs)
all-kept p [] = tt
all-kept p (x ∷ xs) = elim (p x) as (λ b. p x ≡ b → AllByRecursion (λ x. p x ≡ true) (cond b (x ∷ filter p xs) (filter p xs))) [
  | true ↦ λ e. (e, all-kept p xs)
  | false ↦ λ _. all-kept p xs
] refl

false_of : (b : Bool) → not b ≡ true → b ≡ false
false_of true e = absurd (true≢false (sym e))
false_of false e = refl

module _ (a : Addr) (c : List ℕ) where
  abbrev new : Binding
  new = record { address = a; client = c }

  first : (xs : List Binding) → client_at a (new ∷ xs) ≡ Some c
  first xs = ap (λ t. if t then Some c else client_at a xs) (same_address-itself a)

  passed : (kept : List Binding) → AllByRecursion (λ b. is_other_binding a c b ≡ true) kept → client_at a (with_entry binding_cmp new kept) ≡ Some c
  passed [] h = first []
  passed (b ∷ kept) h =
      let other : same_address b.address a ≡ false = false_of (same_address b.address a) (and_parts (not (same_address b.address a)) (not (same_client b.client c)) h.0).0 in
      elim (binding_cmp new b) as (λ o. client_at a (by_order o (new ∷ b ∷ kept) (new ∷ kept) (b ∷ with_entry binding_cmp new kept)) ≡ Some c) [
        | Less ↦ first (b ∷ kept)
        | Equal ↦ first kept
        | Greater ↦ ap (λ t. if t then Some b.client else client_at a (with_entry binding_cmp new kept)) other ∙ passed kept h.1
      ]

  pub bound-client : (bindings : List Binding) → client_at a (bound a c bindings) ≡ Some c
  bound-client bindings = passed (filter (is_other_binding a c) bindings) (all-kept (is_other_binding a c) bindings)

  apart-neither : (b : Binding) → is_other_binding a c b ≡ true → (b.address ≡ a) ⊎ (b.client ≡ c) → ⊥
  apart-neither b h (inl e) = true≢false (sym (ap (λ x. same_address x a) e ∙ same_address-itself a) ∙ false_of (same_address b.address a) (and_parts (not (same_address b.address a)) (not (same_client b.client c)) h).0)
  apart-neither b h (inr e) = true≢false (sym (ap (λ x. same_client x c) e ∙ same_client-itself c) ∙ false_of (same_client b.client c) (and_parts (not (same_address b.address a)) (not (same_client b.client c)) h).1)

  -- a binding of the address or of the client is of both
  abbrev Alone : Binding → Type 0
  Alone b = (b.address ≡ a) ⊎ (b.client ≡ c) → (b.address ≡ a) × (b.client ≡ c)

  all-alone : (bindings : List Binding) → AllByRecursion Alone (bound a c bindings)
  all-alone bindings =
      all_with binding_cmp Alone new (filter (is_other_binding a c) bindings) (λ _. (refl, refl))
      (all_weaker (λ b. is_other_binding a c b ≡ true) Alone (λ b h either. absurd (apart-neither b h either)) (filter (is_other_binding a c) bindings) (all-kept (is_other_binding a c) bindings))

  pub bound-alone : (bindings : List Binding) (b : Binding) → Contains (bound a c bindings) b → (b.address ≡ a) ⊎ (b.client ≡ c) → (b.address ≡ a) × (b.client ≡ c)
  bound-alone bindings b h = All-contains Alone (bound a c bindings) b (All-from_recursion Alone (bound a c bindings) (all-alone bindings)) h
