-- what a search among topic ids finds, and what a change at that place makes
use Rattle.std.proofs.Common.{◌≡◌, ℕ, ◌<◌, ◌≤◌, false, ◌==◌, List, length, get_or, set, Some, None, is_none, sym, ap}
use Rattle.std.specs.declared.cmp.Ordering.{Ordering}
use Rattle.std.specs.Ordering.{nat_cmp, ordering_reverse}
use Rattle.std.specs.Cmp.{nat_cmp_total, on_total, IsTotalOrder}
use Rattle.std.specs.List.{insert}
use Rattle.sn_tables.specs.declared.topics.TopicEntry.{TopicEntry}
use Rattle.sn_tables.specs.Tables.{IsTable}
use Rattle.sn_tables.specs.inner.Tables.{IsFoundAt, IsGap}
use Rattle.sn_tables.specs.Topics.{topic_cmp, with_topic, topic_of, topic_has_no_room}
use Rattle.sn_tables.proofs.Numbers.{tied, lower, higher, room_left}
use Rattle.sn_tables.proofs.Places.{find_at, find_gap, with_at, with_gap, table_set, table_insert}

pub topic_total : IsTotalOrder topic_cmp
topic_total = on_total (λ (e : TopicEntry). e.id) nat_cmp_total

-- how each entry compares with an id
abbrev pub by_id : ℕ → TopicEntry → Ordering
by_id id entry = nat_cmp entry.id id

turns : (e x : TopicEntry) → topic_cmp e x ≡ ordering_reverse (by_id e.id x)
turns e x = nat_cmp_total.antisymm e.id x.id

module _ (xs : List TopicEntry) (i : ℕ) where
  pub found : (id : ℕ) (d : TopicEntry) → IsFoundAt (by_id id) xs i → topic_of id xs ≡ Some (get_or xs i d)
  found id d h = find_at (by_id id) (λ e. e.id == id) (λ e. tied e.id id) (λ e. lower e.id id) (λ e. higher e.id id) xs i d h

  pub absent : (id : ℕ) → IsGap (by_id id) xs i → topic_of id xs ≡ None
  absent id h = find_gap (by_id id) (λ e. e.id == id) (λ e. tied e.id id) (λ e. lower e.id id) (λ e. higher e.id id) xs i h

  -- a gap in a table that has room for the entry
  pub room : (id : ℕ) → IsGap (by_id id) xs i → topic_has_no_room id xs ≡ false → length xs < 256
  room id h free = room_left (length xs) (is_none (topic_of id xs)) free (ap is_none (absent id h))

  pub set_is : (e : TopicEntry) → IsFoundAt (by_id e.id) xs i → set xs i e ≡ with_topic e xs
  set_is e h = sym (with_at (by_id e.id) topic_cmp e (turns e) xs i h)

  pub insert_is : (e : TopicEntry) → IsGap (by_id e.id) xs i → insert xs i e ≡ with_topic e xs
  insert_is e h = sym (with_gap (by_id e.id) topic_cmp e (turns e) xs i h)

  pub set_table : (e : TopicEntry) → IsTable topic_cmp xs → IsFoundAt (by_id e.id) xs i → IsTable topic_cmp (set xs i e)
  set_table e table h = table_set topic_cmp topic_total (by_id e.id) e (turns e) xs i table h

  pub insert_table : (e : TopicEntry) → IsTable topic_cmp xs → i ≤ length xs → length xs < 256 → IsGap (by_id e.id) xs i → IsTable topic_cmp (insert xs i e)
  insert_table e table le room h = table_insert topic_cmp topic_total (by_id e.id) e (turns e) xs i table le room h
