-- Above the greatest origin nothing is acknowledged.
use Rattle.std.proofs.Common.{◌≡◌, ℕ, zero, suc, ◌+◌, ◌<◌, true, false, cond, List, [], ◌∷◌, Some, None, refl, sym, ap, ◌∙◌, subst, arith, nat_cmp, Vec, Global}
use Rattle.std.proofs.lemmas.Bool.Decides.{nat_tests}
use Rattle.std.specs.List.{All, AllByRecursion}
use Rattle.std.specs.Ordering.{is_eq, is_lt}
use Rattle.std.specs.Map.{keys_of}
use Rattle.std.specs.FinMap.{find}
use Rattle.rep_model.specs.Limits.{above_a_gap, sum_to}
use Rattle.rep_shared.specs.Rows.{or_nothing}
use Rattle.rep_log.specs.Origins.{origins_of, ranges_of_origin, origins_above_gaps}

none_above : (last o : ℕ) (es : List (ℕ × List (ℕ × ℕ))) → AllByRecursion (λ k. is_lt (nat_cmp last k) ≡ false) (keys_of es) → last < o → find nat_cmp o es ≡ None
none_above last o [] h above = refl
none_above last o (e ∷ es) h above =
    elim (is_eq (nat_cmp o e.0)) as (λ b. is_eq (nat_cmp o e.0) ≡ b → cond b (Some e.1) (find nat_cmp o es) ≡ None) [
      | true ↦ λ t. absurd (not_above last o e.0 t h.0 above)
      | false ↦ λ _. none_above last o es h.1 above
    ] refl
  where
    not_above : (last o k : ℕ) → is_eq (nat_cmp o k) ≡ true → is_lt (nat_cmp last k) ≡ false → last < o → ⊥
    not_above last o k t h above = grind (arith, nat_tests)

pub nothing_above : (last : ℕ) (es : List (ℕ × List (ℕ × ℕ))) → AllByRecursion (λ k. is_lt (nat_cmp last k) ≡ false) (keys_of es) → (o : ℕ) → last < o → ranges_of_origin o es ≡ []
nothing_above last es h o above = ap or_nothing (none_above last o es h above)

by_place : {X : Type 0} (P : X → Type 0) (xs : List X) → All P xs → AllByRecursion P xs
by_place P [] h = tt
by_place P (x ∷ xs) h = (h zero x (omega arith), by_place P xs (λ k d lt. h (suc k) d (omega (arith, lt))))

pub up_to : (last : ℕ) (es : List (ℕ × Vec (ℕ × ℕ) Global)) → All (λ k. is_lt (nat_cmp last k) ≡ false) (keys_of es) → AllByRecursion (λ k. is_lt (nat_cmp last k) ≡ false) (keys_of (origins_of es))
up_to last es h = subst (AllByRecursion (λ k. is_lt (nat_cmp last k) ≡ false)) (sym (same es)) (by_place (λ k. is_lt (nat_cmp last k) ≡ false) (keys_of es) h)
  where
    same : (es : List (ℕ × Vec (ℕ × ℕ) Global)) → keys_of (origins_of es) ≡ keys_of es
    same [] = refl
    same (e ∷ es) = ap (λ rest. e.0 ∷ rest) (same es)

-- so no origin above it counts
pub above_last : (es : List (ℕ × List (ℕ × ℕ))) (n d m : ℕ) → m ≡ n + d → ((o : ℕ) → n < o → ranges_of_origin o es ≡ []) → origins_above_gaps es m ≡ origins_above_gaps es n
unfolding origins_above_gaps
above_last es n zero m is none = ap (sum_to (λ (o : ℕ). above_a_gap (ranges_of_origin o es))) (let e : m ≡ n = omega (arith, is) in e)
above_last es n (suc d) m is none =
    let f = λ (o : ℕ). above_a_gap (ranges_of_origin o es) in
    let here : f (suc (n + d)) ≡ 0 = ap above_a_gap (none (suc (n + d)) (omega arith)) in
    ap (sum_to f) (let e : m ≡ suc (n + d) = omega (arith, is) in e)
    ∙ ap (λ k. k + sum_to f (n + d)) here
    ∙ (let e : 0 + sum_to f (n + d) ≡ sum_to f (n + d) = omega arith in e)
    ∙ above_last es n d (n + d) refl none
