-- Clients with their operations, in the order of the clients.
use Rattle.std.specs.Prelude.{ℕ, List, T, map, filter, count_by, not}
use Rattle.std.specs.List.{AllByRecursion}
use Rattle.std.specs.FinMap.{is_sorted}
use Rattle.rep_op.specs.declared.op.Op.{Op}
use Rattle.rep_op.specs.Orders.{client_cmp, client_of}
use Rattle.rep_op.specs.Sets.{same_client}
use Rattle.rep_shared.specs.Rows.{own, has_any, IsOwn}

-- the clients that have operations
abbrev pub named_rows : List (List ℕ × List Op) → List (List ℕ)
named_rows rows = map (λ row. row.0) (filter (λ row. has_any row.1) rows)

-- in the order of the clients, each with operations of its own
pub record AreRows (rows : List (List ℕ × List Op)) : Type 0 where
  pub sorted : T (is_sorted client_cmp rows)
  pub owned : AllByRecursion (λ row. IsOwn row.0 row.1) rows

-- how many of the fresh clients had no operations
abbrev pub count_new : List (List ℕ × List Op) → List (List ℕ × List Op) → ℕ
count_new rows fresh = count_by (λ row. not (has_any (own row.0 rows))) fresh

-- the client's own operations in a list
abbrev pub of_client : List ℕ → List Op → List Op
of_client c S = filter (λ op. same_client c (client_of op)) S
