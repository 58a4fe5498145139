-- The table of clients.
use Rattle.std.specs.Prelude.{◌≡◌, ℕ, ◌≤◌, List, map, length, T, Some, Vec, slice_get}
use Rattle.std.specs.Global.{Global}
use Rattle.std.specs.List.{AllByRecursion}
use Rattle.std.specs.Map.{keys_of}
use Rattle.std.specs.FinMap.{is_sorted}
use Rattle.rep_op.specs.declared.op.Op.{Op}
use Rattle.rep_op.specs.Orders.{client_cmp}
use Rattle.rep_model.specs.declared.fault.TheConstants.{MOST_CLIENTS, MOST_PENDING, MOST_PARKED, MOST_EXCEPTIONS}
use Rattle.rep_model.specs.Views.{in_order}
use Rattle.rep_shared.specs.Rows.{count_named}
use Rattle.rep_entry.specs.declared.entry.Entry.{Entry}
use Rattle.rep_state.specs.declared.places.Place.{Place}
use Rattle.rep_entry.specs.Entries.{entry_row, IsEntry}

-- the clients with their entries, in the order of the clients and not of the table
abbrev pub plain_of : List (Vec ℕ Global × Entry) → List (List ℕ × Entry)
plain_of entries = map (λ e. (e.0.items, e.1)) entries

-- the entries in the order of their clients
abbrev pub by_client : List (Vec ℕ Global × Entry) → List (List ℕ × Entry)
by_client entries = in_order client_cmp (plain_of entries)

-- the names of the clients in the order in which they came
abbrev pub arrivals : List (Vec ℕ Global × Entry) → List (List ℕ)
arrivals entries = map (λ e. e.0.items) entries

-- the names of the clients at these places
abbrev pub names_at : List Place → List (List ℕ)
names_at places = map (λ p. p.name) places

-- a place for each client, in order, with the index of its entry
pub record ArePlaces (entries : List (Vec ℕ Global × Entry)) (places : List Place) : Type 0 where
  pub names : names_at places ≡ keys_of (by_client entries)
  pub each : AllByRecursion (λ p. slice_get (arrivals entries) p.index ≡ Some p.name) places

-- the operations that are kept of each client
abbrev pub rows_of : List (List ℕ × Entry) → List (List ℕ × List Op)
rows_of es = map (λ e. (e.0, entry_row e.0 e.1)) es

-- an entry of a client that passes no limit
pub record IsKept (c : List ℕ) (entry : Entry) : Type 0 where
  pub entry_is : IsEntry c entry
  pub pending : length entry.seen.pending ≤ MOST_PENDING
  pub parked : entry.parked ≤ MOST_PARKED
  pub exceptions : entry.exceptions ≤ MOST_EXCEPTIONS

-- each client has an entry that passes no limit
abbrev pub AreKept : List (List ℕ × Entry) → Type 0
AreKept es = AllByRecursion (λ e. IsKept e.0 e.1) es

-- entries in the order of their clients; so many of them have operations
pub record IsEntryTable (es : List (List ℕ × Entry)) (count : ℕ) : Type 0 where
  pub sorted : T (is_sorted client_cmp es)
  pub each : AreKept es
  pub counted : count ≡ count_named (rows_of es)
  pub few : count ≤ MOST_CLIENTS
