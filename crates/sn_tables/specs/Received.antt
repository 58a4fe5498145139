-- The message ids of a session that were received and not yet released: a table of numbers.
use Rattle.std.specs.Prelude.{ℕ, ◌==◌, Bool, not, ◌&&◌, List, filter}
use Rattle.std.specs.List.{list_any}
use Rattle.std.specs.Ordering.{nat_cmp}
use Rattle.sn_tables.specs.Tables.{is_table_full, with_entry}

-- the table with an id
abbrev pub with_received : ℕ → List ℕ → List ℕ
with_received id ids = with_entry nat_cmp id ids

-- the table without an id
abbrev pub without_received : ℕ → List ℕ → List ℕ
without_received id ids = filter (λ n. not (n == id)) ids

-- whether a message id was received at quality of service 2 and is not released
abbrev pub is_received : ℕ → List ℕ → Bool
is_received id ids = list_any (λ n. n == id) ids

-- this id cannot be added: it would be one more than there is room for
abbrev pub id_has_no_room : ℕ → List ℕ → Bool
id_has_no_room id ids = is_table_full ids && not (is_received id ids)
