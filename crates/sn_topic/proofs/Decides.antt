-- the tests of topics, and the facts that they compute
use Rattle.std.proofs.Common.{◌≡◌, ℕ, ◌<◌, ◌≤◌, ◌&&◌, not, ◌↔◌, IsTrue, Bool, true, false, nat_lt, nat_le, List, length, refl, arith}
use Rattle.std.proofs.lemmas.Bool.{and_parts, and_from}
use Rattle.std.proofs.lemmas.Bool.Decides.{nat_tests}
use Rattle.sn_topic.specs.Levels.{has_wildcard, levels, wildcards_stand_alone}
use Rattle.sn_topic.specs.Topics.{IsName, IsFilter, is_topic_size, is_name, is_filter}

-- a length within the bounds
size_from : (n : ℕ) → (nat_lt 0 n && nat_le n 256) ≡ true → (0 < n) × (n ≤ 256)
size_from n h = let parts = and_parts (nat_lt 0 n) (nat_le n 256) h in (grind (arith, nat_tests), grind (arith, nat_tests))

size_to : (n : ℕ) → (0 < n) × (n ≤ 256) → (nat_lt 0 n && nat_le n 256) ≡ true
size_to n h = and_from (nat_lt 0 n) (nat_le n 256) (grind (arith, nat_tests)) (grind (arith, nat_tests))

-- a test that fails
not_true : (test : Bool) → not test ≡ true → test ≡ false
not_true true h = cc
not_true false h = refl

not_false : (test : Bool) → test ≡ false → not test ≡ true
not_false true h = cc
not_false false h = refl

pub is_name-IsName : (octets : List ℕ) → IsTrue (is_name octets) ↔ IsName octets
is_name-IsName octets = (
  λ h. let parts = and_parts (is_topic_size octets) (not (has_wildcard octets)) h in (size_from (length octets) parts.0, not_true (has_wildcard octets) parts.1),
  λ h. and_from (is_topic_size octets) (not (has_wildcard octets)) (size_to (length octets) h.0) (not_false (has_wildcard octets) h.1),
)

pub is_filter-IsFilter : (octets : List ℕ) → IsTrue (is_filter octets) ↔ IsFilter octets
is_filter-IsFilter octets = (
  λ h. let parts = and_parts (is_topic_size octets) (wildcards_stand_alone (levels octets)) h in (size_from (length octets) parts.0, parts.1),
  λ h. and_from (is_topic_size octets) (wildcards_stand_alone (levels octets)) (size_to (length octets) h.0) h.1,
)
