-- the rule of matching, and the test that computes it
use Rattle.std.proofs.Common.{◌≡◌, ℕ, ◌&&◌, not, ◌⊎◌, inl, inr, ◌↔◌, IsTrue, Bool, true, false, List, [], ◌∷◌, ◌++◌, refl, sym, ap, subst}
use Rattle.std.specs.Str.{bytes_eq}
use Rattle.std.proofs.lemmas.Bool.{and_parts, and_from, or_cases, or_left, or_right, eqb-true}
use Rattle.std.proofs.lemmas.Slice.Eq.{bytes_eq-Decides}
use Rattle.sn_topic.specs.Levels.{begins_with_wildcard, levels, is_only, is_plus, is_hash}
use Rattle.sn_topic.specs.Matching.{LevelAgrees, AgreeOneByOne, AgreeUpToHash, Matches, begins_with_dollar, level_agrees, no_level, levels_match, is_match}

-- a level that is one octet alone
only_is : (wanted : ℕ) (level : List ℕ) → is_only wanted level ≡ true → level ≡ wanted ∷ []
only_is wanted [] h = cc
only_is wanted (octet ∷ []) h = ap (λ n. n ∷ []) (eqb-true octet wanted h)
only_is wanted (octet ∷ next ∷ more) h = cc

-- levels that pass the test agree
agrees_from : (asked given : List ℕ) → level_agrees asked given ≡ true → LevelAgrees asked given
agrees_from asked given h =
    elim (or_cases (is_plus asked) (bytes_eq asked given) h) as (λ _. LevelAgrees asked given) [ inl plus ↦ inl (only_is 43 asked plus) | inr same ↦ inr ((bytes_eq-Decides asked given).0 same) ]

-- levels that agree pass the test
agrees_to : (asked given : List ℕ) → LevelAgrees asked given → level_agrees asked given ≡ true
agrees_to asked given (inl e) =
    let P : List ℕ → Type 0 = λ level. is_plus level ≡ true in
    or_left (is_plus asked) (bytes_eq asked given) (subst P (sym e) refl)
agrees_to asked given (inr e) = or_right (is_plus asked) (bytes_eq asked given) ((bytes_eq-Decides asked given).1 e)

-- a `#` that is the last level
hash_last : (asked : List ℕ) (rest given : List (List ℕ)) → (is_hash asked && no_level rest) ≡ true → AgreeUpToHash (asked ∷ rest) given
hash_last asked [] given h = ([], [], given, ap (λ level. level ∷ []) (only_is 35 asked (and_parts (is_hash asked) true h).0), refl, tt)
hash_last asked (next ∷ more) given h =
    let never : false ≡ true = (and_parts (is_hash asked) false h).1 in
    cc

-- one more level that agrees
one_more : (asked given : List ℕ) (rest others : List (List ℕ)) → LevelAgrees asked given → AgreeOneByOne rest others ⊎ AgreeUpToHash rest others → AgreeOneByOne (asked ∷ rest) (given ∷ others) ⊎ AgreeUpToHash (asked ∷ rest) (given ∷ others)
one_more asked given rest others agree (inl all) = inl (agree, all)
one_more asked given rest others agree (inr (front, first, more, is, was, all)) =
    inr (asked ∷ front, given ∷ first, more, ap (λ levels. asked ∷ levels) is, ap (λ levels. given ∷ levels) was, (agree, all))

-- levels that pass the test keep the rule
rule_from : (asked given : List (List ℕ)) → levels_match asked given ≡ true → AgreeOneByOne asked given ⊎ AgreeUpToHash asked given
rule_from [] [] h = inl tt
rule_from [] (given ∷ others) h = cc
rule_from (asked ∷ rest) [] h = inr (hash_last asked rest [] h)
rule_from (asked ∷ rest) (given ∷ others) h =
    elim (or_cases (is_hash asked && no_level rest) (level_agrees asked given && levels_match rest others) h) as (λ _. AgreeOneByOne (asked ∷ rest) (given ∷ others) ⊎ AgreeUpToHash (asked ∷ rest) (given ∷ others)) [
      | inl hash ↦ inr (hash_last asked rest (given ∷ others) hash)
      | inr both ↦
          let parts = and_parts (level_agrees asked given) (levels_match rest others) both in
          one_more asked given rest others (agrees_from asked given parts.0) (rule_from rest others parts.1)
    ]

-- levels that agree one by one pass the test
one_by_one_to : (asked given : List (List ℕ)) → AgreeOneByOne asked given → levels_match asked given ≡ true
one_by_one_to [] [] h = refl
one_by_one_to [] (given ∷ others) h = absurd h
one_by_one_to (asked ∷ rest) [] h = absurd h
one_by_one_to (asked ∷ rest) (given ∷ others) h =
    or_right (is_hash asked && no_level rest) (level_agrees asked given && levels_match rest others) (and_from (level_agrees asked given) (levels_match rest others) (agrees_to asked given h.0) (one_by_one_to rest others h.1))

-- levels that agree up to `#` pass the test
up_to_hash_to : (front first more : List (List ℕ)) → AgreeOneByOne front first → levels_match (front ++ (35 ∷ []) ∷ []) (first ++ more) ≡ true
up_to_hash_to [] [] [] h = refl
up_to_hash_to [] [] (next ∷ more) h = refl
up_to_hash_to [] (given ∷ others) more h = absurd h
up_to_hash_to (asked ∷ rest) [] more h = absurd h
up_to_hash_to (asked ∷ rest) (given ∷ others) more h =
    or_right (is_hash asked && no_level (rest ++ (35 ∷ []) ∷ [])) (level_agrees asked given && levels_match (rest ++ (35 ∷ []) ∷ []) (others ++ more)) (and_from (level_agrees asked given) (levels_match (rest ++ (35 ∷ []) ∷ []) (others ++ more)) (agrees_to asked given h.0) (up_to_hash_to rest others more h.1))

-- levels that keep the rule pass the test
rule_to : (asked given : List (List ℕ)) → AgreeOneByOne asked given ⊎ AgreeUpToHash asked given → levels_match asked given ≡ true
rule_to asked given (inl all) = one_by_one_to asked given all
rule_to asked given (inr (front, first, more, is, was, all)) =
    let P : List (List ℕ) → Type 0 = λ levels. levels_match levels given ≡ true in
    let Q : List (List ℕ) → Type 0 = λ levels. levels_match (front ++ (35 ∷ []) ∷ []) levels ≡ true in
    subst P (sym is) (subst Q (sym was) (up_to_hash_to front first more all))

-- two tests that do not both pass
not_both : (wildcard dollar : Bool) → not (wildcard && dollar) ≡ true → ¬ (IsTrue wildcard × IsTrue dollar)
not_both true true h = λ p. cc
not_both true false h = λ p. cc p.1
not_both false dollar h = λ p. cc p.0

-- the same, the other way
both_not : (wildcard dollar : Bool) → ¬ (IsTrue wildcard × IsTrue dollar) → not (wildcard && dollar) ≡ true
both_not true true h = absurd (h (refl, refl))
both_not true false h = refl
both_not false dollar h = refl

-- the test computes the rule
pub is_match-Matches : (filter name : List ℕ) → IsTrue (is_match filter name) ↔ Matches filter name
is_match-Matches filter name = (
  λ h. let parts = and_parts (not (begins_with_wildcard filter && begins_with_dollar name)) (levels_match (levels filter) (levels name)) h in
      (rule_from (levels filter) (levels name) parts.1, not_both (begins_with_wildcard filter) (begins_with_dollar name) parts.0),
  λ h. and_from (not (begins_with_wildcard filter && begins_with_dollar name)) (levels_match (levels filter) (levels name)) (both_not (begins_with_wildcard filter) (begins_with_dollar name) h.1) (rule_to (levels filter) (levels name) h.0),
)
