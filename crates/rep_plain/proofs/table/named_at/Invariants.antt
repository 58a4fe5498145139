use Rattle.std.proofs.Common.{◌≡◌, Some, drop}
use Rattle.std.specs.List.{AllByRecursion}
use Rattle.std.specs.FinMap.{find}
use Rattle.rep_op.specs.Orders.{client_cmp}
use Rattle.rep_shared.specs.inner.Rows.{named_rows}
use Rattle.rep_plain.specs.Tables.{rows_of}
use Rattle.rep_plain.proofs.table.named_at.Given as goal

abbrev pub invariant-loop-client : goal.invariant-loop-client
invariant-loop-client l =
    (drop l.left (named_rows (rows_of l.client-iterator)) ≡ drop l.place (named_rows (rows_of l.table.entries)))
    × AllByRecursion (λ e. find client_cmp e.0 l.table.entries ≡ Some e.1) l.client-iterator
