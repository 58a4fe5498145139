-- The rest of a list, one place earlier or later.
use Rattle.std.proofs.Common.{◌≡◌, ℕ, suc, ◌+◌, ◌-◌, ◌<◌, ◌≤◌, List, ◌∷◌, length, get_or, drop, sym, ap, ◌∙◌, arith, drop-cons, add-one, length-drop}

-- the rest from a place on is what stands there, and the rest after it
pub drop_here : {A : Type 0} (xs : List A) (i : ℕ) (x : A) → i < length xs → x ≡ get_or xs i x → drop i xs ≡ x ∷ drop (i + 1) xs
drop_here xs i x h is = rw (add-one, is) (drop-cons xs i x h)

-- the same from the place after
pub drop_back : {A : Type 0} (xs : List A) (i : ℕ) (x : A) → 0 < i → i ≤ length xs → x ≡ get_or xs (i - 1) x → drop (i - 1) xs ≡ x ∷ drop i xs
drop_back xs i x p h is =
    let e : (i - 1) + 1 ≡ i = omega arith in
    drop_here xs (i - 1) x (omega arith) is ∙ ap (λ n. x ∷ drop n xs) e

-- a place where something stands is below the length
pub place_within : {A : Type 0} (xs : List A) (i : ℕ) (x : A) (ys : List A) → drop i xs ≡ x ∷ ys → i < length xs
place_within xs i x ys e = let more : length xs - i ≡ suc (length ys) = sym (length-drop i xs) ∙ ap length e in omega arith
