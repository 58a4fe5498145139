-- What is so of each entry of a table is so once another is entered of which it is so, or some are left out.
use Rattle.std.proofs.Common.{◌≡◌, Bool, true, false, cond, ◌&&◌, List, [], ◌∷◌, filter, refl}
use Rattle.std.specs.declared.cmp.Ordering.{Ordering}
use Rattle.std.specs.declared.cmp.Ordering.TheVariants.{Less, Equal, Greater}
use Rattle.std.specs.List.{list_all}
use Rattle.std.proofs.lemmas.Bool.{and_parts, and_from}
use Rattle.sn_tables.specs.Tables.{with_entry, by_order}

module _ {E : Type 0} (p : E → Bool) where
  pub all-entered : (cmp : E → E → Ordering) (e : E) (xs : List E) → p e ≡ true → list_all p xs ≡ true → list_all p (with_entry cmp e xs) ≡ true
  all-entered cmp e [] h all = and_from (p e) true h refl
  all-entered cmp e (x ∷ xs) h all =
      let parts = and_parts (p x) (list_all p xs) all in
      elim (cmp e x) as (λ o. list_all p (by_order o (e ∷ x ∷ xs) (e ∷ xs) (x ∷ with_entry cmp e xs)) ≡ true) [
        | Less ↦ and_from (p e) (list_all p (x ∷ xs)) h all
        | Equal ↦ and_from (p e) (list_all p xs) h parts.1
        | Greater ↦ and_from (p x) (list_all p (with_entry cmp e xs)) parts.0 (all-entered cmp e xs h parts.1)
      ]

  if_all : (b : Bool) (x : E) (xs : List E) → p x ≡ true → list_all p xs ≡ true → list_all p (cond b (x ∷ xs) xs) ≡ true
  if_all true x xs h all = and_from (p x) (list_all p xs) h all
  if_all false x xs h all = all

  pub all-filtered : (test : E → Bool) (xs : List E) → list_all p xs ≡ true → list_all p (filter test xs) ≡ true
  all-filtered test [] all = refl
  all-filtered test (x ∷ xs) all =
      let parts = and_parts (p x) (list_all p xs) all in
      if_all (test x) x (filter test xs) parts.0 (all-filtered test xs parts.1)
