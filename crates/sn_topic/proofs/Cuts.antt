-- how a topic is cut at its first slash
use Rattle.std.proofs.Common.{◌≡◌, ℕ, ◌+◌, ◌<◌, ◌≤◌, ◌==◌, Bool, true, false, cond, ltb, List, [], ◌∷◌, length, take, drop, Some, None, position, refl, ◌&&◌, sym, subst, arith}
use Rattle.std.specs.List.{position_or_len, onto_first}
use Rattle.std.proofs.lemmas.List.Splits.{slice_split_none, slice_split_first}
use Rattle.std.proofs.lemmas.List.Sums.{fails_before_first}
use Rattle.std.proofs.lemmas.Bool.Decides.{nat_tests}
use Rattle.sn_topic.specs.Levels.{levels, asks_for_one, wildcards_stand_alone}

-- a choice that is nothing failed its test
none_chosen : (test : Bool) (n : ℕ) → cond test (Some n) None ≡ None → test ≡ false
none_chosen true n h = cc
none_chosen false n h = refl

-- a choice that is something passed its test
some_chosen : (test : Bool) (n m : ℕ) → cond test (Some n) None ≡ Some m → (test ≡ true) × (n ≡ m)
some_chosen true n m h = (refl, cc)
some_chosen false n m h = cc

-- a topic without a slash is one level
pub levels_whole : (xs : List ℕ) → position (λ octet. octet == 47) xs ≡ None → levels xs ≡ xs ∷ []
levels_whole xs h =
    let slash : ℕ → Bool = λ octet. octet == 47 in
    let past = none_chosen (ltb (position_or_len slash xs) (length xs)) (position_or_len slash xs) h in
    let all : length xs ≤ position_or_len slash xs = grind (arith, nat_tests) in
    slice_split_none slash xs (λ k d below. fails_before_first slash xs k d (omega arith))

-- the first slash ends the first level
pub levels_cut : (xs : List ℕ) (end : ℕ) → position (λ octet. octet == 47) xs ≡ Some end → (end < length xs) × (levels xs ≡ take end xs ∷ levels (drop (end + 1) xs))
levels_cut xs end h =
    let slash : ℕ → Bool = λ octet. octet == 47 in
    let found = some_chosen (ltb (position_or_len slash xs) (length xs)) (position_or_len slash xs) end h in
    let within : position_or_len slash xs < length xs = grind (arith, nat_tests) in
    let P : ℕ → Type 0 = λ n. (n < length xs) × (levels xs ≡ take n xs ∷ levels (drop (n + 1) xs)) in
    subst P found.1 (within, slice_split_first slash xs 0 within)

-- a topic has a first level
pub levels_some : (xs : List ℕ) → (first : List ℕ) × (more : List (List ℕ)) × (levels xs ≡ first ∷ more)
levels_some [] = ([], [], refl)
levels_some (x ∷ xs) =
    let at : (test : Bool) (parts : List (List ℕ)) → (first : List ℕ) × (more : List (List ℕ)) × (cond test ([] ∷ parts) (onto_first x parts) ≡ first ∷ more) =
    λ test parts. elim test as (λ t. (first : List ℕ) × (more : List (List ℕ)) × (cond t ([] ∷ parts) (onto_first x parts) ≡ first ∷ more)) [ true ↦ ([], parts, refl) | false ↦ elim parts as (λ p. (first : List ℕ) × (more : List (List ℕ)) × (onto_first x p ≡ first ∷ more)) [ [] ↦ (x ∷ [], [], refl) | part ∷ rest ↦ (x ∷ part, rest, refl) ] ]
    in at (x == 47) (levels xs)

-- a level before others has no `#`
pub stand_alone-next : (level rest : List ℕ) → wildcards_stand_alone (level ∷ levels rest) ≡ (asks_for_one level && wildcards_stand_alone (levels rest))
stand_alone-next level rest =
    let some = levels_some rest in
    let P : List (List ℕ) → Type 0 = λ parts. wildcards_stand_alone (level ∷ parts) ≡ (asks_for_one level && wildcards_stand_alone parts) in
    subst P (sym some.2) refl
