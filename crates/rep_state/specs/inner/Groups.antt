-- What a delta changes of each client that it names.
use Rattle.std.specs.Prelude.{◌≡◌, ℕ, true, List, [], ◌∷◌, ◌++◌, map, Option, Some, None}
use Rattle.std.specs.FinMap.{find}
use Rattle.rep_op.specs.declared.op.Op.{Op}
use Rattle.rep_op.specs.Orders.{client_cmp}
use Rattle.rep_op.specs.Sets.{Same}
use Rattle.rep_model.specs.Keep.{keep}
use Rattle.rep_shared.specs.Rows.{own, has_any}
use Rattle.rep_shared.specs.inner.Rows.{of_client}
use Rattle.rep_entry.specs.declared.entry.Entry.{Entry}
use Rattle.rep_entry.specs.declared.fresh.Fresh.{Fresh}
use Rattle.rep_entry.specs.Entries.{entry_row, IsFresh, fresh_row, Base, base_of}
use Rattle.rep_state.specs.Tables.{rows_of}
use Rattle.rep_entry.specs.Applied.{nothing_held}

-- the entry, or one that holds nothing
abbrev pub or_nothing_held : Option Entry → Entry
or_nothing_held None = nothing_held
or_nothing_held (Some entry) = entry

-- what is held of the client
abbrev pub held_of : List ℕ → List (List ℕ × Entry) → Entry
held_of c es = or_nothing_held (find client_cmp c es)

-- what a change of the client builds on
abbrev pub base_at : List ℕ → List (List ℕ × Entry) → Base
base_at c es = base_of (held_of c es)

-- what must be kept of the client once the operations of a list are taken
abbrev pub IsKeptAfter : List ℕ → List (List ℕ × Entry) → List Op → List Op → Type 0
IsKeptAfter c es D ops = Same ops (keep (own c (rows_of es) ++ of_client c D))

-- what a first operation changes of the client
abbrev pub IsFirstChange : List ℕ → Entry → Fresh → Op → Type 0
IsFirstChange c entry fresh op =
    IsFresh c entry fresh × Same (fresh_row c entry fresh) (keep (entry_row c entry ++ op ∷ []))

-- a client's group: the list has operations of the client, and they are taken
pub record IsGroup (c : List ℕ) (es : List (List ℕ × Entry)) (D : List Op)
    (fresh : Fresh) : Type 0 where
  pub fresh_is : IsFresh c (held_of c es) fresh
  pub taken : IsKeptAfter c es D (fresh_row c (held_of c es) fresh)
  pub any : has_any (of_client c D) ≡ true

-- the client has its group; it has none if the list has no operation of it
abbrev pub IsGroupOf : List ℕ → List (List ℕ × Entry) → List Op → Option Fresh → Type 0
IsGroupOf c es D None = of_client c D ≡ []
IsGroupOf c es D (Some fresh) = IsGroup c es D fresh

-- a group for each client that the list names
abbrev pub AreGroups : List (List ℕ × Entry) → List Op → List (List ℕ × Fresh) → Type 0
AreGroups es D groups = (c : List ℕ) → IsGroupOf c es D (find client_cmp c groups)

-- what is kept of each client once its group is taken
abbrev pub fresh_rows : List (List ℕ × Entry) → List (List ℕ × Fresh) → List (List ℕ × List Op)
fresh_rows es groups = map (λ g. (g.0, fresh_row g.0 (held_of g.0 es) g.1)) groups

-- the client has its row; it has none if the list has no operation of it
abbrev pub IsRowOf : List ℕ → List (List ℕ × Entry) → List Op → Option (List Op) → Type 0
IsRowOf c es D None = of_client c D ≡ []
IsRowOf c es D (Some ops) = IsKeptAfter c es D ops × (has_any (of_client c D) ≡ true)

-- a row for each client that the list names
abbrev pub AreRowsOf : List (List ℕ × Entry) → List Op → List (List ℕ × List Op) → Type 0
AreRowsOf es D rows = (c : List ℕ) → IsRowOf c es D (find client_cmp c rows)
