-- The table of clients.
use Rattle.std.specs.Prelude.{◌≡◌, ℕ, List, [], ◌∷◌, ◌++◌, length, IsSome, Option, Some, nat_lt, Bool}
use Rattle.std.specs.List.{AllByRecursion, list_any}
use Rattle.std.specs.declared.cmp.Ordering.{Ordering}
use Rattle.std.specs.FinMap.{find}
use Rattle.rep_op.specs.declared.op.Op.{Op}
use Rattle.rep_op.specs.Orders.{client_cmp}
use Rattle.rep_model.specs.declared.fault.TheConstants.{MOST_PENDING, MOST_PARKED, MOST_EXCEPTIONS}
use Rattle.rep_model.specs.declared.fault.Limit.{Limit}
use Rattle.rep_shared.specs.Rows.{flat, own, rows_with, CanGoBack}
use Rattle.rep_shared.specs.inner.Tables.{passed_of}
use Rattle.rep_entry.specs.declared.entry.Entry.{Entry}
use Rattle.rep_state.specs.declared.places.Place.{Place}
use Rattle.rep_entry.specs.Entries.{IsEntry}
use Rattle.rep_state.specs.Tables.{rows_of, IsKept, IsEntryTable}

-- places are in the order of their names
abbrev pub place_cmp : Place → Place → Ordering
place_cmp a b = client_cmp a.name b.name

-- all that is kept of these clients
abbrev pub own_of_all : List (List ℕ) → List (List ℕ × List Op) → List Op
own_of_all [] rows = []
own_of_all (c ∷ cs) rows = own c rows ++ own_of_all cs rows

-- entries of clients, whether they pass a limit or not
abbrev pub AreWorkedOut : List (List ℕ × Entry) → Type 0
AreWorkedOut es = AllByRecursion (λ e. IsEntry e.0 e.1) es

-- the table with more places, and nothing in them
pub record IsRoomier (old new : List (List ℕ × Entry)) : Type 0 where
  pub same : flat (rows_of new) ≡ flat (rows_of old)
  pub table : (count : ℕ) → IsEntryTable old count → IsEntryTable new count
  pub found : (c : List ℕ) → IsSome (find client_cmp c (rows_of old))
      → IsSome (find client_cmp c (rows_of new))
  pub back : (count : ℕ) → IsEntryTable old count → (aside : List (List ℕ × List Op))
      → CanGoBack (rows_of old) aside → CanGoBack (rows_of new) aside
      × (flat (rows_with (rows_of new) aside) ≡ flat (rows_with (rows_of old) aside))

-- more of the rows lies aside, and is put back as before
pub record IsSaving (rows old new : List (List ℕ × List Op)) : Type 0 where
  pub can : CanGoBack rows old → CanGoBack rows new
  pub same : rows_with rows new ≡ rows_with rows old
  pub found : (c : List ℕ) → IsSome (find client_cmp c old) → IsSome (find client_cmp c new)

-- each client that has one of the entries aside has a place for it
abbrev pub HaveTheirPlaces : List (List ℕ × Entry) → List (List ℕ × Entry) → Type 0
HaveTheirPlaces es aside =
    (c : List ℕ) → IsSome (find client_cmp c (rows_of aside))
    → IsSome (find client_cmp c (rows_of es))

-- what lies aside of a client passes no limit
abbrev pub AreKeptAside : List (List ℕ × Entry) → Type 0
AreKeptAside aside =
    (c : List ℕ) (entry : Entry) → find client_cmp c aside ≡ Some entry → IsKept c entry

-- whether more than 16,384 messages wait for the client
abbrev pub too_many_pending : List ℕ × Entry → Bool
too_many_pending e = nat_lt MOST_PENDING (length e.1.seen.pending)

-- whether more than 4,096 session operations of the client wait for earlier ones
abbrev pub too_many_parked : List ℕ × Entry → Bool
too_many_parked e = nat_lt MOST_PARKED e.1.parked

-- whether more than 16,384 acknowledgements of the client are above a gap
abbrev pub too_many_exceptions : List ℕ × Entry → Bool
too_many_exceptions e = nat_lt MOST_EXCEPTIONS e.1.exceptions

-- the limit that is passed once the fresh entries are in their places
abbrev pub passed_by : ℕ → List (List ℕ × Entry) → Option Limit
passed_by count fresh =
    passed_of count (list_any too_many_pending fresh) (list_any too_many_parked fresh)
    (list_any too_many_exceptions fresh)
