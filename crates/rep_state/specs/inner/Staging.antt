-- What is staged of each client that a delta names.
use Rattle.std.specs.Prelude.{◌≡◌, ℕ, List, map, length, is_some, IsSome}
use Rattle.std.specs.List.{AllByRecursion}
use Rattle.std.specs.FinMap.{find}
use Rattle.rep_op.specs.Orders.{client_cmp}
use Rattle.rep_entry.specs.declared.entry.Entry.{Entry}
use Rattle.rep_entry.specs.declared.change.Change.{Change}
use Rattle.rep_entry.specs.Entries.{Base, left_on}
use Rattle.rep_state.specs.Tables.{rows_of}
use Rattle.rep_state.specs.inner.Groups.{held_of, base_at}
use Rattle.rep_entry.specs.Staging.{IsChange, IsFit, IsReady}
use Rattle.rep_entry.specs.Applied.{entry_applied}

-- the entries that the changes make of those that are there
abbrev pub future : List (List ℕ × Entry) → List (List ℕ × Change) → List (List ℕ × Entry)
future es gs = map (λ g. (g.0, entry_applied (held_of g.0 es) g.1)) gs

-- each of the clients has a place
abbrev pub HavePlaces : List (List ℕ × Entry) → List (List ℕ × Change) → Type 0
HavePlaces es gs = AllByRecursion (λ g. IsSome (find client_cmp g.0 (rows_of es))) gs

-- each client has an entry on which its change is ready
abbrev pub AreMovable : List (List ℕ × Entry) → List (List ℕ × Change) → Type 0
AreMovable es gs =
    AllByRecursion (λ g. IsReady (is_some (find client_cmp g.0 es)) g.0 (base_at g.0 es) g.1) gs

-- the changes are what they are said to be, whether they pass a limit or not
pub record IsChangeWorkedOut (c : List ℕ) (base : Base) (change : Change) : Type 0 where
  pub change_is : IsChange change
  pub fit : IsFit c base change
  pub counted : change.pending ≡ length (left_on base change.news.items change.acks)

-- each client has its change worked out, whether it passes a limit or not
abbrev pub AreChangesWorkedOut : List (List ℕ × Entry) → List (List ℕ × Change) → Type 0
AreChangesWorkedOut es gs = AllByRecursion (λ g. IsChangeWorkedOut g.0 (base_at g.0 es) g.1) gs
