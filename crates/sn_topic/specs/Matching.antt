-- which names a filter asks for
use Rattle.std.specs.Prelude.{◌≡◌, ℕ, Bool, true, false, ◌==◌, ◌||◌, ◌&&◌, not, ◌⊎◌, List, [], ◌∷◌, ◌++◌, IsTrue, ⊤}
use Rattle.std.specs.Str.{bytes_eq}
use Rattle.sn_topic.specs.Levels.{begins_with_wildcard, is_plus, is_hash, levels}

-- a level of a filter agrees with a level of a name: it is `+` (43), or the two are equal
abbrev pub LevelAgrees : List ℕ → List ℕ → Type 0
LevelAgrees asked given = (asked ≡ 43 ∷ []) ⊎ (asked ≡ given)

-- the levels are as many on both sides, and agree one by one: each is `+`, or the same
abbrev pub AgreeOneByOne : List (List ℕ) → List (List ℕ) → Type 0
AgreeOneByOne [] [] = ⊤
AgreeOneByOne [] (given ∷ others) = ⊥
AgreeOneByOne (asked ∷ rest) [] = ⊥
AgreeOneByOne (asked ∷ rest) (given ∷ others) = LevelAgrees asked given × AgreeOneByOne rest others

-- the filter is some levels and then `#` (35), and the first levels of the name agree with those
abbrev pub AgreeUpToHash : List (List ℕ) → List (List ℕ) → Type 0
AgreeUpToHash asked given =
    (front : List (List ℕ)) × (first : List (List ℕ)) × (more : List (List ℕ))
    × (asked ≡ front ++ (35 ∷ []) ∷ []) × (given ≡ first ++ more) × AgreeOneByOne front first

-- whether a topic begins with `$` (36)
abbrev pub begins_with_dollar : List ℕ → Bool
begins_with_dollar [] = false
begins_with_dollar (octet ∷ more) = octet == 36

-- the rule of matching: the levels agree, and a filter that begins with a wildcard asks for no name
-- that begins with `$`
abbrev pub Matches : List ℕ → List ℕ → Type 0
Matches filter name =
    (AgreeOneByOne (levels filter) (levels name) ⊎ AgreeUpToHash (levels filter) (levels name))
    × ¬ (IsTrue (begins_with_wildcard filter) × IsTrue (begins_with_dollar name))

-- `LevelAgrees` as a test
abbrev pub level_agrees : List ℕ → List ℕ → Bool
level_agrees asked given = is_plus asked || bytes_eq asked given

-- whether no level is left
abbrev pub no_level : List (List ℕ) → Bool
no_level [] = true
no_level (level ∷ more) = false

-- whether the levels of a filter ask for the levels of a name: `#` at the end asks for all that are
-- left
abbrev pub levels_match : List (List ℕ) → List (List ℕ) → Bool
levels_match [] given = no_level given
levels_match (asked ∷ rest) [] = is_hash asked && no_level rest
levels_match (asked ∷ rest) (given ∷ others) =
    (is_hash asked && no_level rest) || (level_agrees asked given && levels_match rest others)

-- `Matches` as a test
abbrev pub is_match : List ℕ → List ℕ → Bool
is_match filter name =
    not (begins_with_wildcard filter && begins_with_dollar name)
    && levels_match (levels filter) (levels name)
