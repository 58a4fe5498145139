use Rattle.std.proofs.Common.{◌≡◌, vec_len}
use Rattle.rep_shared.specs.Rows.{rows_with}
use Rattle.rep_plain.specs.Tables.{rows_of, HaveRoom}
use Rattle.rep_plain.specs.inner.Tables.{AreMovable}
use Rattle.rep_plain.proofs.room.move_in.Given as goal

abbrev pub invariant-loop-client : goal.invariant-loop-client
invariant-loop-client l =
    (rows_with (rows_of l.table.entries) (rows_of l.fresh.items) ≡ rows_with (rows_of l.fn.table.entries) (rows_of l.fn.fresh.items))
    × HaveRoom (rows_of l.table.entries) (rows_of l.fresh.items)
    × (AreMovable l.fn.table.entries l.fn.fresh.items → AreMovable l.table.entries l.fresh.items)

abbrev pub decreases-loop-client : goal.decreases-loop-client
decreases-loop-client l = vec_len l.fresh
