-- the levels of a filter against those of a name, a first level at a time
use Rattle.std.proofs.Common.{◌≡◌, ℕ, ◌<◌, Bor, Option, Some, None, MatchOption, length, ◌==◌, ◌||◌, ◌&&◌, Bool, true, false, cond, List, [], ◌∷◌, refl, sym, subst, arith}
use Rattle.std.specs.List.{onto_first}
use Rattle.std.proofs.lemmas.Bool.Decides.{nat_tests}
use Rattle.sn_topic.specs.Levels.{levels, is_hash}
use Rattle.sn_topic.specs.Matching.{level_agrees, levels_match, no_level}
use Rattle.sn_topic.proofs.Cuts.{levels_some}

-- some level is left of each topic
pub no_level-levels : (rest : List ℕ) → no_level (levels rest) ≡ false
no_level-levels rest =
    let P : List (List ℕ) → Type 0 = λ parts. no_level parts ≡ false in
    subst P (sym (levels_some rest).2) refl

-- a test that cannot pass leaves the other one
or_nothing : (hash agree : Bool) → ((hash && true) || (agree && true)) ≡ (hash || agree)
or_nothing true agree = refl
or_nothing false true = refl
or_nothing false false = refl

-- the last level on both sides
pub match_last : (asked given : List ℕ) → levels_match (asked ∷ []) (given ∷ []) ≡ (is_hash asked || level_agrees asked given)
match_last asked given = or_nothing (is_hash asked) (level_agrees asked given)

-- two tests of which the second cannot pass
or_never : (hash agree : Bool) → ((hash && true) || (agree && false)) ≡ hash
or_never true agree = refl
or_never false true = refl
or_never false false = refl

-- the last level of the filter, before the last of the name
pub match_short : (asked given rest : List ℕ) → levels_match (asked ∷ []) (given ∷ levels rest) ≡ is_hash asked
match_short asked given rest =
    let P : Bool → Type 0 = λ none. ((is_hash asked && true) || (level_agrees asked given && none)) ≡ is_hash asked in
    subst P (sym (no_level-levels rest)) (or_never (is_hash asked) (level_agrees asked given))

-- two tests of which the first cannot pass
never_or : (hash agree : Bool) → ((hash && false) || agree) ≡ agree
never_or true agree = refl
never_or false agree = refl

-- a level of the filter that others follow
pub match_next : (asked rest given : List ℕ) (others : List (List ℕ)) → levels_match (asked ∷ levels rest) (given ∷ others) ≡ (level_agrees asked given && levels_match (levels rest) others)
match_next asked rest given others =
    let P : Bool → Type 0 = λ none. ((is_hash asked && none) || (level_agrees asked given && levels_match (levels rest) others)) ≡ (level_agrees asked given && levels_match (levels rest) others) in
    subst P (sym (no_level-levels rest)) (never_or (is_hash asked) (level_agrees asked given && levels_match (levels rest) others))

-- no test passes with a false one
and_never : (hash : Bool) → (hash && false) ≡ false
and_never true = refl
and_never false = refl

-- one octet is `#` alone, or is cut at a slash
match_one : (x : ℕ) (slash : Bool) → (x == 47) ≡ slash → levels_match (cond slash ([] ∷ [] ∷ []) ((x ∷ []) ∷ [])) [] ≡ (x == 35)
match_one x true is = grind (arith, nat_tests)
match_one x false is = elim (x == 35) as (λ b. (b && true) ≡ b) [ true ↦ refl | false ↦ refl ]

-- two octets and more are not `#` alone
match_two : (x y : ℕ) (first second : Bool) (more : List ℕ) → levels_match (cond first ([] ∷ cond second ([] ∷ levels more) (onto_first y (levels more))) (onto_first x (cond second ([] ∷ levels more) (onto_first y (levels more))))) [] ≡ false
match_two x y true second more = refl
match_two x y false true more =
    let P : Bool → Type 0 = λ none. (is_hash (x ∷ []) && none) ≡ false in
    subst P (sym (no_level-levels more)) (and_never (is_hash (x ∷ [])))
match_two x y false false more =
    let some = levels_some more in
    let P : List (List ℕ) → Type 0 = λ parts. levels_match (onto_first x (onto_first y parts)) [] ≡ false in
    subst P (sym some.2) refl

-- where the name has ended, only `#` alone is left to ask for
pub match_end : (rest : List ℕ) → levels_match (levels rest) [] ≡ is_hash rest
match_end [] = refl
match_end (x ∷ []) = match_one x (x == 47) refl
match_end (x ∷ y ∷ more) = match_two x y (x == 47) (y == 47) more

-- whatever follows, a topic begins with its first level
pub levels_head : (more : Option (Bor (List ℕ))) (topic level : List ℕ) → MatchOption more (levels topic ≡ level ∷ []) (λ rest. (length rest.now < length topic) × (levels topic ≡ level ∷ levels rest.now)) → (others : List (List ℕ)) × (levels topic ≡ level ∷ others)
levels_head None topic level h = ([], h)
levels_head (Some rest) topic level h = (levels rest.now, h.1)
