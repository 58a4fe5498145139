-- The topic ids of a session: a table of entries ascending by id.
use Rattle.std.specs.Prelude.{◌≡◌, ℕ, ◌+◌, ◌<◌, ◌≤◌, IsSome, ◌==◌, Bool, false, if◌then◌else◌, nat_lt, ◌&&◌, List, [], ◌∷◌, Option, Some, None, is_none, bytes_eq, nat_eq}
use mathlib.Core.Bool.{beq}
use Rattle.std.specs.Option.{option_map}
use Rattle.std.specs.declared.cmp.Ordering.{Ordering}
use Rattle.std.specs.Ordering.{nat_cmp, on, eq_of_both}
use Rattle.std.specs.Cmp.{IsEquivalence, and_equiv, on_equiv, nat_eq_equiv, bool_eq_equiv}
use Rattle.std.specs.Cmp.Lexicographic.{pointwise, nat_list_eq_equiv}
use Rattle.std.specs.List.{AllByRecursion, find}
use Rattle.sn_tables.specs.declared.topics.TopicEntry.{TopicEntry}
use Rattle.sn_tables.specs.Tables.{is_table_full, with_entry}

-- the entry of an id that the client no longer knows
abbrev pub unknown : TopicEntry → TopicEntry
unknown entry = record entry { known = false }

-- entries are ordered by id
abbrev pub topic_cmp : TopicEntry → TopicEntry → Ordering
topic_cmp a b = nat_cmp a.id b.id

-- the table with this entry for its id
abbrev pub with_topic : TopicEntry → List TopicEntry → List TopicEntry
with_topic entry topics = with_entry topic_cmp entry topics

-- the entry of an id
abbrev pub topic_of : ℕ → List TopicEntry → Option TopicEntry
topic_of id topics = find (λ entry. entry.id == id) topics

-- the entry of a name; of several that with the least id, since ids ascend
abbrev pub topic_named : List ℕ → List TopicEntry → Option TopicEntry
topic_named name topics = find (λ entry. bytes_eq entry.name name) topics

-- the least id of a name
abbrev pub topic_id : List ℕ → List TopicEntry → Option ℕ
topic_id name topics = option_map (λ entry. entry.id) (topic_named name topics)

-- an entry for this id cannot be set: it would be one more than there is room for
abbrev pub topic_has_no_room : ℕ → List TopicEntry → Bool
topic_has_no_room id topics = is_table_full topics && is_none (topic_of id topics)

-- the least number from n on that is not the id of an entry
abbrev pub least_unused : ℕ → List TopicEntry → ℕ
least_unused n [] = n
least_unused n (entry ∷ rest) =
    if nat_lt n entry.id then n else least_unused (if entry.id == n then n + 1 else n) rest

-- the least id from 1 on that is not in use, while there is room for one more
abbrev pub free_id : List TopicEntry → Option ℕ
free_id topics = if is_table_full topics then None else Some (least_unused 1 topics)

-- a number from 1 on that is no id, while each smaller one is
pub record IsLeastUnused (topics : List TopicEntry) (n : ℕ) : Type 0 where
  pub from_one : 1 ≤ n
  pub unused : topic_of n topics ≡ None
  pub least : (k : ℕ) → 1 ≤ k → k < n → IsSome (topic_of k topics)

-- the id of an entry with the name, while no entry with the name has a smaller one
pub record IsLeastIdOf (name : List ℕ) (topics : List TopicEntry) (id : ℕ) : Type 0 where
  pub named : (entry : TopicEntry) × (topic_of id topics ≡ Some entry) × (entry.name ≡ name)
  pub least : AllByRecursion (λ entry. entry.name ≡ name → id ≤ entry.id) topics

-- equality of entries as a test
abbrev pub topic_eq : TopicEntry → TopicEntry → Bool
topic_eq a b =
    eq_of_both (on (λ e. e.id) nat_eq)
    (eq_of_both (on (λ e. e.name) (pointwise nat_eq)) (on (λ e. e.known) beq)) a b

-- the test of equality is an equivalence: reflexive, symmetric and transitive
pub topic_equiv : IsEquivalence topic_eq
topic_equiv =
    and_equiv (on_equiv (λ e. e.id) nat_eq_equiv)
    (and_equiv (on_equiv (λ e. e.name) nat_list_eq_equiv) (on_equiv (λ e. e.known) bool_eq_equiv))
