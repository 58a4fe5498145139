-- filters and topics that are put below a prefix
use Rattle.std.proofs.Common.{◌≡◌, ℕ, ◌==◌, ◌||◌, ◌&&◌, not, Bool, true, false, cond, List, [], ◌∷◌, ◌++◌, refl, sym, subst}
use Rattle.std.specs.List.{onto_first}
use Rattle.std.specs.Str.{bytes_eq}
use Rattle.std.proofs.lemmas.Bool.{and_parts, and_from, or_parts, or_from, or_right}
use Rattle.std.proofs.lemmas.Slice.Eq.{bytes_eq-Decides}
use Rattle.mq_packet.specs.Text.{has_octet}
use Rattle.sn_topic.specs.Levels.{begins_with_wildcard, is_hash, is_plus, levels}
use Rattle.sn_topic.specs.Matching.{Matches, begins_with_dollar, level_agrees, levels_match, no_level}
use Rattle.sn_topic.proofs.Rule.{is_match-Matches}
use Rattle.br_map.specs.Apart.{ends_a_level}
use Rattle.br_map.specs.Mapping.{has_wildcard_octet}

-- the levels of a prefix that ends one
abbrev fronts : List ℕ → List (List ℕ)
fronts [] = []
fronts (octet ∷ []) = [] ∷ []
fronts (octet ∷ next ∷ more) = cond (octet == 47) ([] ∷ fronts (next ∷ more)) (onto_first octet (fronts (next ∷ more)))

-- of which there is one if there are octets
some_front : (octet : ℕ) (slash : Bool) (parts : List (List ℕ)) → (first : List ℕ) × (rest : List (List ℕ)) × (cond slash ([] ∷ parts) (onto_first octet parts) ≡ first ∷ rest)
some_front octet true parts = ([], parts, refl)
some_front octet false [] = (octet ∷ [], [], refl)
some_front octet false (part ∷ rest) = (octet ∷ part, rest, refl)

fronts_some : (octet : ℕ) (more : List ℕ) → (first : List ℕ) × (rest : List (List ℕ)) × (fronts (octet ∷ more) ≡ first ∷ rest)
fronts_some octet [] = ([], [], refl)
fronts_some octet (next ∷ more) = some_front octet (octet == 47) (fronts (next ∷ more))

-- one octet in front of levels, with a level after it
front_step : (octet : ℕ) (slash : Bool) (first : List ℕ) (rest others : List (List ℕ))
    → cond slash ([] ∷ ((first ∷ rest) ++ others)) (onto_first octet ((first ∷ rest) ++ others)) ≡ cond slash ([] ∷ (first ∷ rest)) (onto_first octet (first ∷ rest)) ++ others
front_step octet true first rest others = refl
front_step octet false first rest others = refl

-- a topic below a prefix has the prefix's levels and its own
levels_below : (prefix topic : List ℕ) → ends_a_level prefix ≡ true → levels (prefix ++ topic) ≡ fronts prefix ++ levels topic
levels_below [] topic h = refl
levels_below (octet ∷ []) topic h =
    let P : Bool → Type 0 = λ slash. cond slash ([] ∷ levels topic) (onto_first octet (levels topic)) ≡ [] ∷ levels topic in
    subst P (sym h) refl
levels_below (octet ∷ next ∷ more) topic h =
    let deeper = levels_below (next ∷ more) topic h in
    let some = fronts_some next more in
    let P : List (List ℕ) → Type 0 = λ parts. cond (octet == 47) ([] ∷ parts) (onto_first octet parts) ≡ fronts (octet ∷ next ∷ more) ++ levels topic in
    let Q : List (List ℕ) → Type 0 = λ parts. cond (octet == 47) ([] ∷ (parts ++ levels topic)) (onto_first octet (parts ++ levels topic)) ≡ cond (octet == 47) ([] ∷ parts) (onto_first octet parts) ++ levels topic in
    subst P (sym deeper) (subst Q (sym some.2) (front_step octet (octet == 47) some.0 some.1 (levels topic)))

-- levels agree with themselves
agree_self : (level : List ℕ) → level_agrees level level ≡ true
agree_self level = or_right (is_plus level) (bytes_eq level level) ((bytes_eq-Decides level level).1 refl)

match_below : (front f given : List (List ℕ)) → levels_match f given ≡ true → levels_match (front ++ f) (front ++ given) ≡ true
match_below [] f given h = h
match_below (level ∷ front) f given h =
    or_right (is_hash level && no_level (front ++ f)) (level_agrees level level && levels_match (front ++ f) (front ++ given)) (and_from (level_agrees level level) (levels_match (front ++ f) (front ++ given)) (agree_self level) (match_below front f given h))

-- what is below a prefix begins as the prefix does
no_wildcard : (octet : ℕ) (more : List ℕ) → has_wildcard_octet (octet ∷ more) ≡ false → ((octet == 43) || (octet == 35)) ≡ false
no_wildcard octet more h =
    let both = or_parts (has_octet 43 (octet ∷ more)) (has_octet 35 (octet ∷ more)) h in
    let plus = or_parts (octet == 43) (has_octet 43 more) both.0 in
    let hash = or_parts (octet == 35) (has_octet 35 more) both.1 in
    or_from (octet == 43) (octet == 35) plus.0 hash.0

not_both : (wildcard dollar : Bool) → wildcard ≡ false → not (wildcard && dollar) ≡ true
not_both true dollar h = cc
not_both false dollar h = refl

-- a filter below a prefix matches, below the prefix, what it matches
pub below_matches : (prefix filter topic : List ℕ) → has_wildcard_octet prefix ≡ false → ends_a_level prefix ≡ true → Matches filter topic → Matches (prefix ++ filter) (prefix ++ topic)
below_matches [] filter topic h e m = m
below_matches (octet ∷ more) filter topic h e m =
    let own = and_parts (not (begins_with_wildcard filter && begins_with_dollar topic)) (levels_match (levels filter) (levels topic)) ((is_match-Matches filter topic).1 m) in
    let whole = match_below (fronts (octet ∷ more)) (levels filter) (levels topic) own.1 in
    let P : List (List ℕ) → List (List ℕ) → Type 0 = λ x y. levels_match x y ≡ true in
    let Q : List (List ℕ) → Type 0 = λ x. P x (fronts (octet ∷ more) ++ levels topic) in
    let R : List (List ℕ) → Type 0 = λ y. P (levels ((octet ∷ more) ++ filter)) y in
    let matched : levels_match (levels ((octet ∷ more) ++ filter)) (levels ((octet ∷ more) ++ topic)) ≡ true =
    subst R (sym (levels_below (octet ∷ more) topic e)) (subst Q (sym (levels_below (octet ∷ more) filter e)) whole) in
    (is_match-Matches ((octet ∷ more) ++ filter) ((octet ∷ more) ++ topic)).0 (and_from _ _ (not_both _ (begins_with_dollar ((octet ∷ more) ++ topic)) (no_wildcard octet more h)) matched)
