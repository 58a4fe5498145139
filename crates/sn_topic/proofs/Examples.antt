-- worked examples of the definitions
use Rattle.std.proofs.Common.{◌≡◌, true, false, [], ◌∷◌, replicate, Some, None, refl, lit<, lit≤}
use Rattle.std.specs.Prelude.{codes}
use Rattle.sn_topic.specs.Levels.{levels, has_wildcard, wildcards_stand_alone}
use Rattle.sn_topic.specs.Topics.{IsName, IsFilter}
use Rattle.sn_topic.specs.Matching.{Matches, is_match}
use Rattle.sn_topic.specs.Table.{is_table, name_of_id, ids_of, least}
use Rattle.sn_topic.proofs.Rule.{is_match-Matches}

-- levels may be empty
levels_plain : levels (codes "t/a") ≡ codes "t" ∷ codes "a" ∷ []
levels_plain = refl

levels_empty_first : levels (codes "/a") ≡ [] ∷ codes "a" ∷ []
levels_empty_first = refl

levels_empty_between : levels (codes "a//b") ≡ codes "a" ∷ [] ∷ codes "b" ∷ []
levels_empty_between = refl

levels_empty_last : levels (codes "a/") ≡ codes "a" ∷ [] ∷ []
levels_empty_last = refl

-- names and filters
name_of_256 : IsName (replicate 256 97)
name_of_256 = ((lit< tt, lit≤ tt), refl)

name_with_hash : has_wildcard (codes "t#") ≡ true
name_with_hash = refl

filter_hash : IsFilter (codes "t/#")
filter_hash = ((lit< tt, lit≤ tt), refl)

filter_plus : IsFilter (codes "+/a/+")
filter_plus = ((lit< tt, lit≤ tt), refl)

filter_hash_beside : wildcards_stand_alone (levels (codes "t#")) ≡ false
filter_hash_beside = refl

filter_hash_first : wildcards_stand_alone (levels (codes "#/a")) ≡ false
filter_hash_first = refl

filter_plus_beside : wildcards_stand_alone (levels (codes "a/+b")) ≡ false
filter_plus_beside = refl

-- matching, by the rule
hash_asks_for_parent : Matches (codes "t/#") (codes "t")
hash_asks_for_parent = (is_match-Matches (codes "t/#") (codes "t")).0 refl

hash_asks_for_all_below : Matches (codes "t/#") (codes "t/a/b")
hash_asks_for_all_below = (is_match-Matches (codes "t/#") (codes "t/a/b")).0 refl

plus_asks_for_one : Matches (codes "+/a") (codes "t/a")
plus_asks_for_one = (is_match-Matches (codes "+/a") (codes "t/a")).0 refl

plus_asks_for_empty : Matches (codes "+/a") (codes "/a")
plus_asks_for_empty = (is_match-Matches (codes "+/a") (codes "/a")).0 refl

-- matching, by the test
hash_hides_dollar : is_match (codes "#") (codes "$x") ≡ false
hash_hides_dollar = refl

plus_hides_dollar : is_match (codes "+/a") (codes "$x/a") ≡ false
plus_hides_dollar = refl

dollar_asked_for : is_match (codes "$x/#") (codes "$x/a") ≡ true
dollar_asked_for = refl

plus_spans_no_slash : is_match (codes "+") (codes "t/a") ≡ false
plus_spans_no_slash = refl

plus_asks_for_a_level : is_match (codes "t/+") (codes "t") ≡ false
plus_asks_for_a_level = refl

levels_keep_their_place : is_match (codes "a/b") (codes "a//b") ≡ false
levels_keep_their_place = refl

-- tables
table_of_two : is_table ((5, codes "t/a") ∷ (6, codes "t/b") ∷ []) ≡ true
table_of_two = refl

table_with_0 : is_table ((0, codes "t/a") ∷ []) ≡ false
table_with_0 = refl

table_with_65535 : is_table ((65535, codes "t/a") ∷ []) ≡ false
table_with_65535 = refl

table_twice : is_table ((5, codes "t/a") ∷ (6, codes "t/a") ∷ (5, codes "t/b") ∷ []) ≡ false
table_twice = refl

name_of_5 : name_of_id 5 ((5, codes "t/a") ∷ []) ≡ Some (codes "t/a")
name_of_5 = refl

least_of_three : least (ids_of (codes "t") ((7, codes "t") ∷ (3, codes "t") ∷ (2, codes "u") ∷ (5, codes "t") ∷ [])) ≡ Some 3
least_of_three = refl

no_id : least (ids_of (codes "v") ((7, codes "t") ∷ [])) ≡ None
no_id = refl
