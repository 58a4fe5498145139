-- Tables: lists of at most 256 entries in strictly ascending order.
use Rattle.std.specs.Prelude.{◌≡◌, ℕ, zero, suc, ◌<◌, ◌≤◌, List, [], ◌∷◌, length, Result, MatchResult}
use Rattle.std.specs.declared.cmp.Ordering.{Ordering}
use Rattle.std.specs.declared.cmp.Ordering.TheVariants.{Less, Equal, Greater}
use Rattle.std.specs.List.{AllByRecursion}

-- all entries are above what is sought
abbrev pub AllAbove : {E : Type 0} → (E → Ordering) → List E → Type 0
AllAbove sought entries = AllByRecursion (λ a. sought a ≡ Greater) entries

-- what is sought is at this place
abbrev pub IsFoundAt : {E : Type 0} → (E → Ordering) → List E → ℕ → Type 0
IsFoundAt sought [] i = ⊥
IsFoundAt sought (a ∷ rest) zero = (sought a ≡ Equal) × AllAbove sought rest
IsFoundAt sought (a ∷ rest) (suc i) = (sought a ≡ Less) × IsFoundAt sought rest i

-- what is sought is not there, and would go to this place
abbrev pub IsGap : {E : Type 0} → (E → Ordering) → List E → ℕ → Type 0
IsGap sought entries zero = AllAbove sought entries
IsGap sought [] (suc i) = ⊥
IsGap sought (a ∷ rest) (suc i) = (sought a ≡ Less) × IsGap sought rest i

-- what a search for it answers: the place that it has, or else the place to which it would go
abbrev pub IsPlace : {E : Type 0} → (E → Ordering) → List E → Result ℕ ℕ → Type 0
IsPlace sought entries result =
    MatchResult result (λ at. (at < length entries) × IsFoundAt sought entries at)
    (λ at. (at ≤ length entries) × IsGap sought entries at)
