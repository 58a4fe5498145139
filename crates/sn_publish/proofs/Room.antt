-- Whether a list has an element at a place tells whether it is longer.
use Rattle.std.proofs.Common.{◌≡◌, ℕ, ◌+◌, true, false, nat_lt, List, [], ◌∷◌, drop, length, length-drop, sym, ap, ◌∙◌, arith}
use Rattle.std.proofs.lemmas.Bool.Decides.{nat_tests}

pub room_left : {A : Type 0} (n m : ℕ) (xs : List A) → m ≡ n + 1 → drop n xs ≡ [] → true ≡ nat_lt (length xs) m
room_left n m xs one e =
    let none : length (drop n xs) ≡ 0 = ap length e in
    let left = length-drop n xs in
    grind (arith, nat_tests, none, left, one)

pub none_left : {A : Type 0} (n m : ℕ) (x : A) (xs more : List A) → m ≡ n + 1 → drop n xs ≡ x ∷ more → false ≡ nat_lt (length xs) m
none_left {A = A} n m x xs more one e =
    let some : length (drop n xs) ≡ length more + 1 = ap length e ∙ longer more in
    let left = length-drop n xs in
    grind (arith, nat_tests, some, left, one)
  where
    longer : (ys : List A) → length (x ∷ ys) ≡ length ys + 1
    longer ys = omega arith
