-- Groups in the order of their clients: the last of them, and one that is changed where it stands.
use Rattle.std.proofs.Common.{◌≡◌, ℕ, zero, suc, ◌-◌, Less, Equal, Ordering, List, [], ◌∷◌, length, get_or, set, slice_get, Some, None, ◌<◌, T, refl, sym, ap, ◌∙◌, subst, arith}
use Rattle.std.specs.Cmp.{IsTotalOrder}
use Rattle.std.specs.List.{AllByRecursion}
use Rattle.std.specs.Ordering.{ordering_reverse}
use Rattle.std.specs.FinMap.{put, is_sorted}
use Rattle.std.specs.FinMap.Entries.{by_order}
use Rattle.sn_tables.specs.inner.Tables.{IsFoundAt, IsGap}
use Rattle.sn_tables.proofs.Ascending.{Ascends}
use Rattle.rep_log.proofs.Sorting.{ascends, behind_last}

reversed : {K : Type 0} (R : K → K → Ordering) → IsTotalOrder R → (q k : K) (r : Ordering) → R k q ≡ r → R q k ≡ ordering_reverse r
reversed R total q k r e = total.antisymm q k ∙ ap ordering_reverse e

one_less : (m : ℕ) → m ≡ suc m - 1
one_less m = omega arith

all_at : {E : Type 0} (P : E → Type 0) (es : List E) (k : ℕ) (x : E) → AllByRecursion P es → slice_get es k ≡ Some x → P x
all_at P [] k x h is = none_some is
  where
    none_some : {Q : Type 0} → None ≡ Some x → Q
    none_some p = cc
all_at P (e ∷ es) zero x h is = subst P (same is) h.0
  where
    same : Some e ≡ Some x → e ≡ x
    same p = cc
all_at P (e ∷ es) (suc k) x h is = all_at P es k x h.1 is

-- what stands somewhere stands within the list
pub at_in : {E : Type 0} (sought : E → Ordering) (es : List E) (i : ℕ) → IsFoundAt sought es i → i < length es
at_in sought [] i h = absurd h
at_in sought (e ∷ es) zero h = omega arith
at_in sought (e ∷ es) (suc i) h = let r = at_in sought es i h.1 in omega (arith, r)

module _ {K X : Type 0} (R : K → K → Ordering) where
  gap_end : (q : K) (es : List (K × X)) → AllByRecursion (λ (e : K × X). R e.0 q ≡ Less) es → IsGap (λ (e : K × X). R e.0 q) es (length es)
  gap_end q [] h = tt
  gap_end q (e ∷ es) h = (h.0, gap_end q es h.1)

  at_end : (q : K) (es : List (K × X)) (k : ℕ) (last : K × X) → Ascends (λ (x y : K × X). R x.0 y.0) es → length es ≡ suc k → slice_get es k ≡ Some last → last.0 ≡ q → R last.0 q ≡ Equal → IsFoundAt (λ (e : K × X). R e.0 q) es k
  at_end q [] k last h long is same equal = absurd (none k long)
    where
      none : (k : ℕ) → 0 ≡ suc k → ⊥
      none k e = omega (arith, e)
  at_end q (e ∷ []) zero last h long is same equal = (subst (λ (x : K × X). R x.0 q ≡ Equal) (sym (it is)) equal, tt)
    where
      it : Some e ≡ Some last → e ≡ last
      it p = cc
  at_end q (e ∷ []) (suc k) last h long is same equal = absurd (more k long)
    where
      more : (k : ℕ) → 1 ≡ suc (suc k) → ⊥
      more k e = omega (arith, e)
  at_end q (e ∷ f ∷ es) zero last h long is same equal = absurd (less (length es) long)
    where
      less : (m : ℕ) → suc (suc m) ≡ 1 → ⊥
      less m e = omega (arith, e)
  at_end q (e ∷ f ∷ es) (suc k) last h long is same equal = (
    subst (λ x. R e.0 x ≡ Less) same (all_at (λ (y : K × X). R e.0 y.0 ≡ Less) (f ∷ es) k last h.0 is),
    at_end q (f ∷ es) k last h.1 (omega (arith, long)) is same equal,
  )

  module _ (total : IsTotalOrder R) (q : K) where
    -- what comes after the last goes after all
    pub gap_behind : (es : List (K × X)) (last : K × X) → T (is_sorted R es) → slice_get es (length es - 1) ≡ Some last → R last.0 q ≡ Less → IsGap (λ (e : K × X). R e.0 q) es (length es)
    gap_behind [] last h is less = tt
    gap_behind (e ∷ es) last h is less =
        gap_end q (e ∷ es) (behind_last R total q (e ∷ es) (length es) last (ascends R (e ∷ es) h) refl (ap (slice_get (e ∷ es)) (one_less (length es)) ∙ is) less)

    -- the last is the one
    pub at_last : (es : List (K × X)) (last : K × X) → T (is_sorted R es) → slice_get es (length es - 1) ≡ Some last → last.0 ≡ q → R last.0 q ≡ Equal → IsFoundAt (λ (e : K × X). R e.0 q) es (length es - 1)
    at_last [] last h is same equal = absurd (none_some is)
      where
        none_some : None ≡ Some last → ⊥
        none_some p = cc
    at_last (e ∷ es) last h is same equal =
        subst (λ k. IsFoundAt (λ (d : K × X). R d.0 q) (e ∷ es) k) (one_less (length es))
        (at_end q (e ∷ es) (length es) last (ascends R (e ∷ es) h) refl (ap (slice_get (e ∷ es)) (one_less (length es)) ∙ is) same equal)

    -- an entry is changed where it stands
    pub put_at : (v : X) (es : List (K × X)) (i : ℕ) (x : K × X) → x ≡ get_or es i x → IsFoundAt (λ (e : K × X). R e.0 q) es i → set es i (x.0, v) ≡ put R q v es
    put_at v [] i x is h = absurd h
    put_at v (e ∷ es) zero x is h =
        ap (λ (y : K × X). (y.0, v) ∷ es) is
        ∙ sym (ap (λ r. by_order r ((q, v) ∷ e ∷ es) ((e.0, v) ∷ es) (e ∷ put R q v es)) (reversed R total q e.0 Equal h.0))
    put_at v (e ∷ es) (suc i) x is h =
        ap (λ rest. e ∷ rest) (put_at v es i x is h.1)
        ∙ sym (ap (λ r. by_order r ((q, v) ∷ e ∷ es) ((e.0, v) ∷ es) (e ∷ put R q v es)) (reversed R total q e.0 Less h.0))
