-- What must be kept of clients in rows, and rows that grow.
use Rattle.std.specs.Prelude.{◌≡◌, ℕ, List, [], ◌∷◌, ◌++◌, Option, Some, None, if◌then◌else◌}
use Rattle.std.specs.FinMap.{find}
use Rattle.rep_op.specs.declared.op.Op.{Op}
use Rattle.rep_op.specs.Orders.{client_cmp}
use Rattle.rep_model.specs.Keep.{keep}
use Rattle.rep_shared.specs.Rows.{own, has_any}
use Rattle.rep_shared.specs.inner.Rows.{of_client}

-- what must be kept of each client
abbrev pub kept_rows : List (List ℕ × List Op) → List Op
kept_rows [] = []
kept_rows (row ∷ rows) = keep row.1 ++ kept_rows rows

-- a client's row with the operations of a list after it, if the list has any of the client
abbrev pub row_grown : List ℕ → List (List ℕ × List Op) → List Op → Option (List Op)
row_grown c rows D = if has_any (of_client c D) then Some (own c rows ++ of_client c D) else None

-- fresh rows for the clients of a list
abbrev pub IsGrown : List (List ℕ × List Op) → List Op → List (List ℕ × List Op) → Type 0
IsGrown rows D fresh = (c : List ℕ) → find client_cmp c fresh ≡ row_grown c rows D
