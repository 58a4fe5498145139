-- Ranges of sequence numbers.
use Rattle.std.specs.Prelude.{ℕ, ◌+◌, ◌≤◌, Bool, ◌&&◌, nat_le, List, [], ◌∷◌}
use Rattle.std.specs.List.{list_any}

-- whether the number is in the range
abbrev pub is_within : ℕ → ℕ × ℕ → Bool
is_within n r = nat_le r.0 n && nat_le n r.1

-- whether the number is in one of the ranges
abbrev pub in_ranges : ℕ → List (ℕ × ℕ) → Bool
in_ranges n ranges = list_any (is_within n) ranges

-- no range ends before it begins; the first begins at start or later, and each other one leaves out
-- a number after the one before it
abbrev pub AreApartFrom : ℕ → List (ℕ × ℕ) → Type 0
AreApartFrom start [] = Unit {0}
AreApartFrom start (r ∷ rest) = (start ≤ r.0) × (r.0 ≤ r.1) × AreApartFrom (r.1 + 2) rest

-- ranges in ascending order that neither overlap nor touch
abbrev pub AreApart : List (ℕ × ℕ) → Type 0
AreApart ranges = AreApartFrom 0 ranges
