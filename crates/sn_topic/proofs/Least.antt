-- what the least of some numbers is
use Rattle.std.proofs.Common.{◌≡◌, ℕ, suc, zero, ◌<◌, ◌≤◌, ◌⊎◌, inl, inr, min, List, [], ◌∷◌, length, get_or, fold, Option, Some, MatchOption, All, Contains, refl, sym, ◌∙◌, subst, arith}
use Rattle.sn_topic.specs.Table.{least, lesser}

-- a bound of the first number and of the others bounds them all
all_above : (bound n : ℕ) (more : List ℕ) → bound ≤ n → All (λ other. bound ≤ other) more → (k d : ℕ) → k < length (n ∷ more) → bound ≤ get_or (n ∷ more) k d
all_above bound n more first others zero d below = first
all_above bound n more first others (suc k) d below = others k d (omega arith)

-- a number that stands among the others stands among them all
stands_later : (id n : ℕ) (more : List ℕ) → Contains more id → Contains (n ∷ more) id
stands_later id n more (k, below, is) = (suc k, omega arith, is)

-- the lesser of two numbers is one of them
min_is : (m n : ℕ) → (min m n ≡ m) ⊎ (min m n ≡ n)
min_is m n = grind arith

-- where the lesser number of known and n stands among known, n and more
stands_first : (id known n : ℕ) (more : List ℕ) → (id ≡ min known n) ⊎ Contains more id → (id ≡ known) ⊎ Contains (n ∷ more) id
stands_first id known n more (inl is) = elim (min_is known n) [ inl first ↦ inl (is ∙ first) | inr second ↦ inr (0, omega arith, sym (is ∙ second)) ]
stands_first id known n more (inr later) = inr (stands_later id n more later)

-- a fold from a known number ends at the least
least_known : (known : ℕ) (more : List ℕ) → (id : ℕ) × (fold lesser (Some known) more ≡ Some id) × (id ≤ known) × All (λ other. id ≤ other) more × ((id ≡ known) ⊎ Contains more id)
least_known known [] = (known, refl, omega arith, λ k d below. absurd (omega arith), inl refl)
least_known known (n ∷ more) =
    let rest = least_known (min known n) more in
    (rest.0, rest.1, omega (arith, rest.2), all_above rest.0 n more (omega (arith, rest.2)) rest.3, stands_first rest.0 known n more rest.4)

-- the least of some numbers is one of them, and none is less
pub least-is : (numbers : List ℕ) → MatchOption (least numbers) (numbers ≡ []) (λ id. Contains numbers id × All (λ other. id ≤ other) numbers)
least-is [] = refl
least-is (n ∷ more) =
    let found = least_known n more in
    let P : Option ℕ → Type 0 = λ answer. MatchOption answer (n ∷ more ≡ []) (λ id. Contains (n ∷ more) id × All (λ other. id ≤ other) (n ∷ more)) in
    subst P (sym found.1) (elim found.4 [ inl is ↦ (0, omega arith, sym is) | inr later ↦ stands_later found.0 n more later ], all_above found.0 n more found.2 found.3)
