-- the levels of a topic, and what a wildcard is
use Rattle.std.specs.Prelude.{ℕ, Bool, true, false, ◌==◌, ◌||◌, ◌&&◌, not, List, [], ◌∷◌}
use Rattle.std.specs.List.{list_any, slice_split}

-- `+` (43) and `#` (35) are the wildcards
abbrev pub is_wildcard : ℕ → Bool
is_wildcard octet = (octet == 43) || (octet == 35)

-- whether there is a wildcard among the octets
abbrev pub has_wildcard : List ℕ → Bool
has_wildcard octets = list_any is_wildcard octets

-- whether the first octet is a wildcard
abbrev pub begins_with_wildcard : List ℕ → Bool
begins_with_wildcard [] = false
begins_with_wildcard (octet ∷ more) = is_wildcard octet

-- whether a level is just this one octet
abbrev pub is_only : ℕ → List ℕ → Bool
is_only wanted [] = false
is_only wanted (octet ∷ []) = octet == wanted
is_only wanted (octet ∷ next ∷ more) = false

-- `+` alone in its level
abbrev pub is_plus : List ℕ → Bool
is_plus level = is_only 43 level

-- `#` alone in its level
abbrev pub is_hash : List ℕ → Bool
is_hash level = is_only 35 level

-- the levels of a topic: what is before, between and after its slashes (47); an empty level is one
-- too
abbrev pub levels : List ℕ → List (List ℕ)
levels octets = slice_split (λ octet. octet == 47) octets

-- a level that asks for one level of a name: it has no wildcard, or is `+` alone
abbrev pub asks_for_one : List ℕ → Bool
asks_for_one level = not (has_wildcard level) || is_plus level

-- each wildcard is alone in its level, and `#` is in the last level only
abbrev pub wildcards_stand_alone : List (List ℕ) → Bool
wildcards_stand_alone [] = true
wildcards_stand_alone (level ∷ []) = asks_for_one level || is_hash level
wildcards_stand_alone (level ∷ next ∷ more) =
    asks_for_one level && wildcards_stand_alone (next ∷ more)
