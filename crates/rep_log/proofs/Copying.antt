-- A map is copied entry by entry, in the order of its keys.
use Rattle.std.proofs.Common.{◌≡◌, Bool, true, false, ◌&&◌, List, [], ◌∷◌, ◌++◌, T, refl, sym, ap, ◌∙◌, subst, append_assoc, Ordering, Less, Equal, Greater}
use Rattle.std.specs.List.{AllByRecursion}
use Rattle.std.specs.Ordering.{is_lt, ordering_reverse}
use Rattle.std.specs.Cmp.{IsTotalOrder}
use Rattle.std.specs.FinMap.{put, is_sorted}
use Rattle.std.specs.FinMap.Entries.{below_all, by_order}

first : (a b : Bool) → T (a && b) → T a
first true b p = tt
first false b p = p

second : (a b : Bool) → T (a && b) → T b
second true b p = p
second false b p = absurd p

less : (r : Ordering) → T (is_lt r) → r ≡ Less
less Less p = refl
less Equal p = absurd p
less Greater p = absurd p

module _ {K X : Type 0} (R : K → K → Ordering) where
  -- an entry above all others goes last
  put_last : IsTotalOrder R → (k : K) (v : X) (es : List (K × X)) → AllByRecursion (λ e. R e.0 k ≡ Less) es → put R k v es ≡ es ++ (k, v) ∷ []
  put_last o k v [] h = refl
  put_last o k v (e ∷ es) h =
      ap (λ r. by_order r ((k, v) ∷ e ∷ es) ((e.0, v) ∷ es) (e ∷ put R k v es)) (o.antisymm k e.0 ∙ ap ordering_reverse h.0)
      ∙ ap (λ rest. e ∷ rest) (put_last o k v es h.1)

  below_member : (q k : K) (v : X) (xs ys : List (K × X)) → T (below_all R q (xs ++ (k, v) ∷ ys)) → R q k ≡ Less
  below_member q k v [] ys h = less (R q k) (first (is_lt (R q k)) (below_all R q ys) h)
  below_member q k v (x ∷ xs) ys h = below_member q k v xs ys (second (is_lt (R q x.0)) (below_all R q (xs ++ (k, v) ∷ ys)) h)

  below_next : (k : K) (v : X) (xs ys : List (K × X)) → T (is_sorted R (xs ++ (k, v) ∷ ys)) → AllByRecursion (λ e. R e.0 k ≡ Less) xs
  below_next k v [] ys h = tt
  below_next k v (x ∷ xs) ys h = (
    below_member x.0 k v xs ys (first (below_all R x.0 (xs ++ (k, v) ∷ ys)) (is_sorted R (xs ++ (k, v) ∷ ys)) h),
    below_next k v xs ys (second (below_all R x.0 (xs ++ (k, v) ∷ ys)) (is_sorted R (xs ++ (k, v) ∷ ys)) h),
  )

  -- the next entry of a list in order goes after those before it
  pub put_next : IsTotalOrder R → (k : K) (v : X) (xs ys : List (K × X)) → T (is_sorted R (xs ++ (k, v) ∷ ys)) → put R k v xs ≡ xs ++ (k, v) ∷ []
  put_next o k v xs ys h = put_last o k v xs (below_next k v xs ys h)

  -- one entry more of the copy
  pub copied_next : IsTotalOrder R → (k : K) (v : X) (done rest all more : List (K × X)) → done ++ (k, v) ∷ rest ≡ all → T (is_sorted R all) → more ≡ put R k v done → more ++ rest ≡ all
  copied_next o k v done rest all more is sorted made =
      ap (λ m. m ++ rest) (made ∙ put_next o k v done rest (subst (λ es. T (is_sorted R es)) (sym is) sorted))
      ∙ append_assoc done ((k, v) ∷ []) rest ∙ is
