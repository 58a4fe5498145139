use Rattle.std.proofs.Common.{◌≡◌, T}
use Rattle.std.specs.FinMap.{is_sorted}
use Rattle.rep_op.specs.Orders.{client_cmp}
use Rattle.rep_shared.specs.Rows.{rows_with}
use Rattle.rep_plain.specs.Tables.{rows_of, HaveRoom}
use Rattle.rep_plain.specs.inner.Tables.{AreMovable}
use Rattle.rep_plain.proofs.asides.put_all_back.Given as goal

abbrev pub invariant-loop-client : goal.invariant-loop-client
invariant-loop-client l =
    (rows_with (rows_of l.table.entries) (rows_of l.client-iterator) ≡ rows_with (rows_of l.fn.table.entries) (rows_of l.fn.aside.entries))
    × HaveRoom (rows_of l.table.entries) (rows_of l.client-iterator)
    × AreMovable l.table.entries l.client-iterator
    × T (is_sorted client_cmp (rows_of l.client-iterator))
