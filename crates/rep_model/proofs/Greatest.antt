-- The greatest of a list, and the greatest of numbers.
use Rattle.std.proofs.Common.{◌≡◌, ℕ, ◌≤◌, Bool, true, false, ◌||◌, ◌⊎◌, if◌then◌else◌, List, [], ◌∷◌, Option, Some, None, IfSome, IsSomeAnd, refl, sym, ap, ◌∙◌, true≢false, Ordering, Less, Equal, Greater, arith, is_lt, is_eq, inl, inr}
use Rattle.std.specs.List.{list_any}
use Rattle.std.specs.Cmp.{IsTotalOrder}
use Rattle.std.specs.Ordering.{eq_by_cmp, is_gt, ordering_reverse}
use Rattle.std.proofs.lemmas.Cmp.{upto, tied_itself, tied_back, alike_right}
use Rattle.std.proofs.lemmas.Map.Lookups.{CmpEqualImpliesEq}
use Rattle.std.proofs.lemmas.Bool.{or_left, or_right}
use Rattle.rep_model.specs.Views.{greater, greatest}
use Rattle.rep_model.specs.Fresh.{largest}

by_or : {P : Type 0} (x y : Bool) → (x || y) ≡ true → (x ≡ true → P) → (y ≡ true → P) → P
by_or true y e f g = f refl
by_or false y e f g = g e

tied : (r : Ordering) → is_eq r ≡ true → r ≡ Equal
tied Less e = absurd (true≢false (sym e))
tied Equal e = refl
tied Greater e = absurd (true≢false (sym e))

turned : (r : Ordering) → is_lt (ordering_reverse r) ≡ is_gt r
turned Less = refl
turned Equal = refl
turned Greater = refl

module _ {K : Type 0} (R : K → K → Ordering) where
  -- whether the list has an element that ties with x
  abbrev pub has : K → List K → Bool
  has x xs = list_any (eq_by_cmp R x) xs

  module _ (o : IsTotalOrder R) where
    below_turned : (x y : K) → is_lt (R x y) ≡ is_gt (R y x)
    below_turned x y = ap is_lt (o.antisymm x y) ∙ turned (R y x)

    -- what is not below what is not below z is not below z
    pub not_below : (x y z : K) → is_lt (R x y) ≡ false → is_lt (R y z) ≡ false → is_lt (R x z) ≡ false
    not_below x y z p q = below_turned x z ∙ upto o z y x (sym (below_turned y z) ∙ q) (sym (below_turned x y) ∙ p)

    pub greatest-has : (xs : List K) → IfSome (greatest R xs) (λ g. has g xs ≡ true)
    greatest-has [] = tt
    greatest-has (x ∷ xs) =
        let own : has x (x ∷ xs) ≡ true = ap (λ r. is_eq r || has x xs) (tied_itself o x) in
        elim (greatest R xs) as (λ p. IfSome p (λ g. has g xs ≡ true) → IfSome (greater R x p) (λ g. has g (x ∷ xs) ≡ true)) [
          | None ↦ λ _. own
          | Some b ↦ λ h. elim (is_lt (R x b)) as (λ l. IfSome (if l then Some b else Some x) (λ g. has g (x ∷ xs) ≡ true)) [ true ↦ or_right _ _ h | false ↦ own ]
        ] (greatest-has xs)

    tied_below : (x y : K) → is_eq (R x y) ≡ true → is_lt (R y x) ≡ false
    tied_below x y t = ap is_lt (tied_back o x y (tied _ t))

    over : (r : Ordering) → is_lt r ≡ true → is_lt (ordering_reverse r) ≡ false
    over Less e = refl
    over Equal e = refl
    over Greater e = absurd (true≢false (sym e))

    pub greatest-reaches : (x : K) (xs : List K) → has x xs ≡ true → IsSomeAnd (greatest R xs) (λ g. is_lt (R g x) ≡ false)
    greatest-reaches x [] h = absurd (true≢false (sym h))
    greatest-reaches x (y ∷ xs) h =
        elim (greatest R xs) as (λ p. (has x xs ≡ true → IsSomeAnd p (λ g. is_lt (R g x) ≡ false)) → IsSomeAnd (greater R y p) (λ g. is_lt (R g x) ≡ false)) [
          | None ↦ λ rest. by_or (eq_by_cmp R x y) (has x xs) h (λ t. tied_below x y t) (λ r. absurd (rest r))
          | Some b ↦ λ rest. elim (is_lt (R y b)) as (λ l. is_lt (R y b) ≡ l → IsSomeAnd (if l then Some b else Some y) (λ g. is_lt (R g x) ≡ false)) [
            | true ↦ λ lt. by_or (eq_by_cmp R x y) (has x xs) h (λ t. ap is_lt (alike_right o x y b (tied _ t)) ∙ ap is_lt (o.antisymm b y) ∙ over (R y b) lt) rest
            | false ↦ λ nlt. by_or (eq_by_cmp R x y) (has x xs) h (λ t. tied_below x y t) (λ r. not_below y b x nlt (rest r))
          ] refl
        ] (greatest-reaches x xs)

    level : (x y : K) (r : Ordering) → R x y ≡ r → is_lt (R x y) ≡ false → is_lt (R y x) ≡ false → R x y ≡ Equal
    level x y Less e p q = absurd (true≢false (sym (ap is_lt e) ∙ p))
    level x y Equal e p q = e
    level x y Greater e p q = absurd (true≢false (sym (ap is_lt (o.antisymm y x ∙ ap ordering_reverse e)) ∙ q))

    module _ (exact : CmpEqualImpliesEq R) (xs ys : List K) where
      same_by : (p q : Option K) → IfSome p (λ g. has g xs ≡ true) → ((x : K) → has x xs ≡ true → IsSomeAnd p (λ g. is_lt (R g x) ≡ false)) → ((x : K) → has x ys ≡ true → IsSomeAnd q (λ g. is_lt (R g x) ≡ false)) → ((x : K) → has x xs ≡ true → has x ys ≡ true) → IfSome q (λ g. has g xs ≡ true) → p ≡ q
      same_by None None hp rp rq sub inx = refl
      same_by None (Some g) hp rp rq sub inx = absurd (rp g inx)
      same_by (Some h) None hp rp rq sub inx = absurd (rq h (sub h hp))
      same_by (Some h) (Some g) hp rp rq sub inx = ap Some (exact h g (level h g (R h g) refl (rp g inx) (rq h (sub h hp))))

      -- a part of a list that has the list's greatest
      pub same_greatest : ((x : K) → has x xs ≡ true → has x ys ≡ true) → IfSome (greatest R ys) (λ g. has g xs ≡ true) → greatest R xs ≡ greatest R ys
      same_greatest sub inx = same_by (greatest R xs) (greatest R ys) (greatest-has xs) (λ x. greatest-reaches x xs) (λ x. greatest-reaches x ys) sub inx

-- the test u m finds elements of which f is v m
module _ {A N : Type 0} (f : A → ℕ) (u : N → A → Bool) (v : N → ℕ) where
  pub largest-least : ((a : A) → (f a ≡ 0) ⊎ ((m : N) × (u m a ≡ true) × (v m ≡ f a))) → (n : ℕ) (S : List A) → ((m : N) → list_any (u m) S ≡ true → v m ≤ n) → largest f S ≤ n
  largest-least finds n [] h = omega arith
  largest-least finds n (a ∷ S) h =
      let rest = largest-least finds n S (λ m e. h m (or_right (u m a) (list_any (u m) S) e)) in
      let this : f a ≤ n = elim (finds a) [ inl e ↦ omega (arith, e) | inr w ↦ omega (arith, w.2, h w.0 (or_left (u w.0 a) (list_any (u w.0) S) w.1)) ] in
      omega (arith, rest, this)

  pub largest-reaches : ((m : N) (a : A) → u m a ≡ true → v m ≤ f a) → (m : N) (S : List A) → list_any (u m) S ≡ true → v m ≤ largest f S
  largest-reaches finds m [] e = absurd (true≢false (sym e))
  largest-reaches finds m (a ∷ S) e = by_or (u m a) (list_any (u m) S) e (λ t. omega (arith, finds m a t)) (λ r. omega (arith, largest-reaches finds m S r))
