-- Clients with their operations, in the order of the clients.
use Rattle.std.specs.Prelude.{◌≡◌, ◌≤◌, ℕ, Bool, true, false, List, [], ◌∷◌, ◌++◌, Option, Some, None, IsSome, length, filter, IsTrue}
use Rattle.std.specs.List.{AllByRecursion}
use Rattle.std.specs.FinMap.{find, put}
use Rattle.rep_op.specs.declared.op.Op.{Op}
use Rattle.rep_op.specs.Orders.{client_cmp}
use Rattle.rep_op.specs.WellMade.{is_well_made}
use Rattle.rep_model.specs.declared.fault.TheConstants.{MOST_CLIENTS}
use Rattle.rep_model.specs.Views.{named}

-- all operations, client by client: the set that is kept
abbrev pub flat : List (List ℕ × List Op) → List Op
flat [] = []
flat (row ∷ rows) = row.1 ++ flat rows

-- the list, or one of nothing
abbrev pub or_nothing : {A : Type 0} → Option (List A) → List A
or_nothing None = []
or_nothing (Some xs) = xs

-- the client's own operations
abbrev pub own : List ℕ → List (List ℕ × List Op) → List Op
own c rows = or_nothing (find client_cmp c rows)

-- the rows once a commit has put the fresh ones there, instead of those of the same clients
abbrev pub rows_with : List (List ℕ × List Op) → List (List ℕ × List Op) → List (List ℕ × List Op)
rows_with rows [] = rows
rows_with rows (row ∷ fresh) = put client_cmp row.0 row.1 (rows_with rows fresh)

-- whether there are operations
abbrev pub has_any : List Op → Bool
has_any [] = false
has_any (op ∷ ops) = true

-- how many of the clients have operations
abbrev pub count_named : List (List ℕ × List Op) → ℕ
count_named rows = length (filter (λ row. has_any row.1) rows)

-- What lies aside can be put back: each of its clients has a place, and then not too many clients
-- have operations.
pub record CanGoBack (rows aside : List (List ℕ × List Op)) : Type 0 where
  pub room : AllByRecursion (λ row. IsSome (find client_cmp row.0 rows)) aside
  pub few : count_named (rows_with rows aside) ≤ MOST_CLIENTS

-- what is held of each of these clients lies aside
abbrev pub AreSaved : {X : Type 0} → List (List ℕ × List Op) → List (List ℕ × X) → Type 0
AreSaved aside news = AllByRecursion (λ row. IsSome (find client_cmp row.0 aside)) news

-- a well made operation that names the client
abbrev pub IsOwnOp : List ℕ → Op → Type 0
IsOwnOp c op = (named op ≡ Some (c, c)) × IsTrue (is_well_made op)

-- the operations are well made and name the client
abbrev pub IsOwn : List ℕ → List Op → Type 0
IsOwn c ops = AllByRecursion (IsOwnOp c) ops
