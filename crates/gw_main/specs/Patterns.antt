-- Patterns of client ids. 42 is `*`, which stands for any rest, and 63 is `?`, for any octet.
use Rattle.std.specs.Prelude.{ℕ, ◌==◌, Bool, true, false, ◌&&◌, ◌||◌, not, List, [], ◌∷◌, length}
use Rattle.std.specs.List.{list_any}

-- whether a text is a pattern: it is not empty, and `*` stands at its end alone
abbrev pub is_pattern : List ℕ → Bool
is_pattern [] = false
is_pattern (octet ∷ []) = true
is_pattern (octet ∷ (next ∷ rest)) = not (octet == 42) && is_pattern (next ∷ rest)

-- whether an id is like a pattern
abbrev pub is_like : List ℕ → List ℕ → Bool
is_like [] [] = true
is_like [] (octet ∷ rest) = false
is_like (wanted ∷ pattern) [] = wanted == 42
is_like (wanted ∷ pattern) (octet ∷ rest) =
    (wanted == 42) || (((wanted == 63) || (wanted == octet)) && is_like pattern rest)

-- whether a client of an id is let in: it is like one of the patterns, or there is none
abbrev pub lets_in : List (List ℕ) → List ℕ → Bool
lets_in patterns id =
    (length patterns == 0) || list_any (λ pattern. is_like pattern id) patterns
