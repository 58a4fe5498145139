-- The table of the replica.
use Rattle.std.specs.Prelude.{◌≡◌, ℕ, ◌≤◌, List, map, length, T, IsSome}
use Rattle.std.specs.List.{AllByRecursion}
use Rattle.std.specs.FinMap.{find, is_sorted}
use Rattle.rep_op.specs.declared.op.Op.{Op}
use Rattle.rep_op.specs.Orders.{client_cmp}
use Rattle.rep_model.specs.declared.fault.TheConstants.{MOST_CLIENTS, MOST_PENDING, MOST_PARKED, MOST_EXCEPTIONS}
use Rattle.rep_plain.specs.declared.entry.Entry.{Entry}
use Rattle.rep_plain.specs.Entries.{IsWorkedOut}
use Rattle.rep_shared.specs.Rows.{IsOwn, count_named}

-- the operations of each client
abbrev pub rows_of : List (List ℕ × Entry) → List (List ℕ × List Op)
rows_of entries = map (λ e. (e.0, e.1.ops.items)) entries

-- the operations are the client's own, and what they come to passes no limit
pub record IsPlainEntry (c : List ℕ) (entry : Entry) : Type 0 where
  pub own : IsOwn c entry.ops.items
  pub worked_out : IsWorkedOut c entry
  pub pending : length entry.seen.pending ≤ MOST_PENDING
  pub parked : entry.parked ≤ MOST_PARKED
  pub exceptions : entry.exceptions ≤ MOST_EXCEPTIONS

-- each client has an entry of its own operations that passes no limit
abbrev pub AreEntries : List (List ℕ × Entry) → Type 0
AreEntries entries = AllByRecursion (λ e. IsPlainEntry e.0 e.1) entries

-- entries in the order of their clients; so many of them have operations
pub record IsPlainTable (entries : List (List ℕ × Entry)) (count : ℕ) : Type 0 where
  pub sorted : T (is_sorted client_cmp entries)
  pub each : AreEntries entries
  pub counted : count ≡ count_named (rows_of entries)
  pub few : count ≤ MOST_CLIENTS

-- each of the fresh clients has a place, so that a commit takes no memory
abbrev pub HaveRoom : List (List ℕ × List Op) → List (List ℕ × List Op) → Type 0
HaveRoom rows fresh = AllByRecursion (λ row. IsSome (find client_cmp row.0 rows)) fresh
