-- whether two filters have no topic in common
use Rattle.std.specs.Prelude.{ℕ, Bool, true, ◌==◌, ◌||◌, ◌&&◌, not, List, [], ◌∷◌, ◌++◌}
use Rattle.std.specs.Str.{bytes_eq}
use Rattle.sn_topic.specs.Levels.{begins_with_wildcard, is_hash, is_plus, levels}
use Rattle.sn_topic.specs.Matching.{begins_with_dollar, levels_match, no_level}

-- one level of a name can agree with both: one of them is `+`, or they are the same
abbrev pub levels_meet : List ℕ → List ℕ → Bool
levels_meet first second = is_plus first || is_plus second || bytes_eq first second

-- some levels of a name can be asked for by both: pair by pair, and `#` at the end asks for all
-- that are left
abbrev pub overlap : List (List ℕ) → List (List ℕ) → Bool
overlap [] second = levels_match second []
overlap (level ∷ more) [] = levels_match (level ∷ more) []
overlap (level ∷ more) (other ∷ rest) =
    (is_hash level && no_level more) || (is_hash other && no_level rest)
    || (levels_meet level other && overlap more rest)

-- the first begins with a wildcard, which asks for no name that begins as the second does, with `$`
abbrev pub dollar_apart : List ℕ → List ℕ → Bool
dollar_apart first second = begins_with_wildcard first && begins_with_dollar second

-- no topic can match both
abbrev pub are_filters_apart : List ℕ → List ℕ → Bool
are_filters_apart first second =
    dollar_apart first second || dollar_apart second first
    || not (overlap (levels first) (levels second))

-- what follows begins a level: there is nothing, or a slash (47) at the end
abbrev pub ends_a_level : List ℕ → Bool
ends_a_level [] = true
ends_a_level (octet ∷ []) = octet == 47
ends_a_level (octet ∷ next ∷ more) = ends_a_level (next ∷ more)

-- no topic that a filter matches can match the other one when it is put below the prefix
abbrev pub is_apart_below : List ℕ → List ℕ → List ℕ → Bool
is_apart_below prefix filter other =
    ends_a_level prefix && are_filters_apart (prefix ++ filter) other
