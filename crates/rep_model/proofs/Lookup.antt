-- The first entry of a list under a name: over two lists, over a filter, and as a test of the list.
use Rattle.std.proofs.Common.{◌≡◌, Bool, true, false, cond, ◌||◌, T, List, [], ◌∷◌, ◌++◌, filter, filter_map, Option, Some, None, is_some, IfSome, refl, sym, ap, ◌∙◌, subst, Ordering}
use Rattle.std.specs.List.{list_any, cons_option, AllByRecursion}
use Rattle.std.specs.Cmp.{IsTotalOrder}
use Rattle.std.specs.Ordering.{eq_by_cmp}
use Rattle.std.specs.FinMap.{find}
use Rattle.std.specs.FinMap.Entries.{find-put, is_sorted, is_sorted-put}
use Rattle.std.proofs.lemmas.Map.Lookups.{CmpEqualImpliesEq}
use Rattle.std.proofs.lemmas.Map.Views.{tells_apart}
use Rattle.std.proofs.lemmas.Bool.{or_left, or_right}
use Rattle.rep_model.specs.Views.{in_order}

-- the first, or else the second
abbrev pub or_else : {X : Type 0} → Option X → Option X → Option X
or_else None b = b
or_else (Some x) b = Some x

-- whether it is an entry under the name
abbrev pub is_entry_of : {K X : Type 0} → (K → K → Ordering) → K → Option (K × X) → Bool
is_entry_of R q None = false
is_entry_of R q (Some e) = eq_by_cmp R q e.0

module _ {K X : Type 0} (R : K → K → Ordering) where
  pub find_both : (q : K) (es fs : List (K × X)) → find R q (es ++ fs) ≡ or_else (find R q es) (find R q fs)
  find_both q [] fs = refl
  find_both q (e ∷ es) fs = elim (eq_by_cmp R q e.0) as (λ b. cond b (Some e.1) (find R q (es ++ fs)) ≡ or_else (cond b (Some e.1) (find R q es)) (find R q fs)) [ true ↦ refl | false ↦ find_both q es fs ]

  pub is_some-find_map : {A : Type 0} (f : A → Option (K × X)) (q : K) (S : List A) → is_some (find R q (filter_map f S)) ≡ list_any (λ a. is_entry_of R q (f a)) S
  is_some-find_map f q [] = refl
  is_some-find_map f q (a ∷ S) =
      let rest = is_some-find_map f q S in
      elim (f a) as (λ o. is_some (find R q (cons_option o (filter_map f S))) ≡ (is_entry_of R q o || list_any (λ a. is_entry_of R q (f a)) S)) [
        | None ↦ rest
        | Some e ↦ elim (eq_by_cmp R q e.0) as (λ b. is_some (cond b (Some e.1) (find R q (filter_map f S))) ≡ (b || list_any (λ a. is_entry_of R q (f a)) S)) [ true ↦ refl | false ↦ rest ]
      ]

  -- what is said of each entry holds of the one that is found
  pub find-all : CmpEqualImpliesEq R → {A : Type 0} (f : A → Option (K × X)) (P : K → X → Type 0) (S : List A) → AllByRecursion (λ a. IfSome (f a) (λ e. P e.0 e.1)) S → (q : K) → IfSome (find R q (filter_map f S)) (λ x. P q x)
  find-all exact f P [] h q = tt
  find-all exact f P (a ∷ S) h q =
      let rest = find-all exact f P S h.1 q in
      elim (f a) as (λ o. IfSome o (λ e. P e.0 e.1) → IfSome (find R q (cons_option o (filter_map f S))) (λ x. P q x)) [
        | None ↦ λ _. rest
        | Some e ↦ λ is. elim (eq_by_cmp R q e.0) as (λ b. eq_by_cmp R q e.0 ≡ b → IfSome (cond b (Some e.1) (find R q (filter_map f S))) (λ x. P q x)) [
          | true ↦ λ t. subst (λ k. P k e.1) (sym (tells_apart exact q e.0 t)) is
          | false ↦ λ _. rest
        ] refl
      ] h.0

  module _ (o : IsTotalOrder R) where
    pub find-in_order : (q : K) (es : List (K × X)) → find R q (in_order R es) ≡ find R q es
    find-in_order q [] = refl
    find-in_order q (e ∷ es) = find-put R o q e.0 e.1 (in_order R es) ∙ ap (cond (eq_by_cmp R q e.0) (Some e.1)) (find-in_order q es)

    pub is_sorted-in_order : (es : List (K × X)) → T (is_sorted R (in_order R es))
    is_sorted-in_order [] = tt
    is_sorted-in_order (e ∷ es) = is_sorted-put R o e.0 e.1 (in_order R es) (is_sorted-in_order es)

-- a test of the elements that is a test of the names of their entries
pub filter_map-filter : {A K X : Type 0} (f : A → Option (K × X)) (p : A → Bool) (P : K → Bool) → ((a : A) → IfSome (f a) (λ e. p a ≡ P e.0)) → (S : List A) → filter_map f (filter p S) ≡ filter (λ e. P e.0) (filter_map f S)
filter_map-filter f p P h [] = refl
filter_map-filter f p P h (a ∷ S) =
    let rest = filter_map-filter f p P h S in
    elim (f a) as (λ o. f a ≡ o → IfSome o (λ e. p a ≡ P e.0) → filter_map f (cond (p a) (a ∷ filter p S) (filter p S)) ≡ filter (λ e. P e.0) (cons_option o (filter_map f S))) [
      | None ↦ λ e _. elim (p a) as (λ b. filter_map f (cond b (a ∷ filter p S) (filter p S)) ≡ filter (λ e. P e.0) (filter_map f S)) [
        | true ↦ ap (λ o. cons_option o (filter_map f (filter p S))) e ∙ rest
        | false ↦ rest
      ]
      | Some x ↦ λ e is. ap (λ b. filter_map f (cond b (a ∷ filter p S) (filter p S))) is
          ∙ elim (P x.0) as (λ b. filter_map f (cond b (a ∷ filter p S) (filter p S)) ≡ cond b (x ∷ filter (λ e. P e.0) (filter_map f S)) (filter (λ e. P e.0) (filter_map f S))) [
            | true ↦ λ i. cons_option (e i) (rest i)
            | false ↦ rest
          ]
    ] refl (h a)

-- a test that only passes what the filter keeps
pub list_any-filter : {A : Type 0} (t p : A → Bool) → ((a : A) → t a ≡ true → p a ≡ true) → (S : List A) → list_any t (filter p S) ≡ list_any t S
list_any-filter t p h [] = refl
list_any-filter t p h (a ∷ S) =
    let rest = list_any-filter t p h S in
    elim (t a) as (λ b. t a ≡ b → list_any t (cond (p a) (a ∷ filter p S) (filter p S)) ≡ (b || list_any t S)) [
      | true ↦ λ e. ap (λ b. list_any t (cond b (a ∷ filter p S) (filter p S))) (h a e) ∙ ap (λ b. b || list_any t (filter p S)) e
      | false ↦ λ e. elim (p a) as (λ b. list_any t (cond b (a ∷ filter p S) (filter p S)) ≡ list_any t S) [
        | true ↦ ap (λ b. b || list_any t (filter p S)) e ∙ rest
        | false ↦ rest
      ]
    ] refl

-- a weaker test
pub list_any-weaker : {A : Type 0} (t u : A → Bool) → ((a : A) → t a ≡ true → u a ≡ true) → (S : List A) → list_any t S ≡ true → list_any u S ≡ true
list_any-weaker t u h [] e = e
list_any-weaker t u h (a ∷ S) e =
    elim (t a) as (λ b. t a ≡ b → (b || list_any t S) ≡ true → (u a || list_any u S) ≡ true) [
      | true ↦ λ is _. or_left (u a) (list_any u S) (h a is)
      | false ↦ λ _ r. or_right (u a) (list_any u S) (list_any-weaker t u h S r)
    ] refl e

-- where each element that passes passes one of the tests u, one of those finds an element
pub list_any-picks : {A N : Type 0} (t : A → Bool) (u : N → A → Bool) → ((a : A) → t a ≡ true → (n : N) × (u n a ≡ true)) → (S : List A) → list_any t S ≡ true → (n : N) × (list_any (u n) S ≡ true)
list_any-picks t u h [] e = absurd (subst T (sym e) tt)
list_any-picks t u h (a ∷ S) e =
    elim (t a) as (λ b. t a ≡ b → (b || list_any t S) ≡ true → (n : _) × ((u n a || list_any (u n) S) ≡ true)) [
      | true ↦ λ is _. let w = h a is in (w.0, or_left (u w.0 a) (list_any (u w.0) S) w.1)
      | false ↦ λ _ r. let w = list_any-picks t u h S r in (w.0, or_right (u w.0 a) (list_any (u w.0) S) w.1)
    ] refl e

pub list_any-or : {A : Type 0} (t u : A → Bool) (S : List A) → list_any (λ a. t a || u a) S ≡ (list_any t S || list_any u S)
list_any-or t u [] = refl
list_any-or t u (a ∷ S) = ap (λ b. (t a || u a) || b) (list_any-or t u S) ∙ four (t a) (u a) (list_any t S) (list_any u S)
  where
    four : (a b c d : Bool) → ((a || b) || (c || d)) ≡ ((a || c) || (b || d))
    four true b c d = refl
    four false true true d = refl
    four false true false d = refl
    four false false c d = refl
