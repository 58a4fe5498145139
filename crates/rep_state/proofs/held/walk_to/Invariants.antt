use Rattle.std.proofs.Common.{◌≡◌, drop}
use Rattle.rep_shared.specs.inner.Rows.{named_rows}
use Rattle.rep_state.specs.Tables.{by_client, rows_of}
use Rattle.rep_state.proofs.held.walk_to.Given as goal

abbrev pub invariant-loop-i : goal.invariant-loop-i
invariant-loop-i l = drop l.left (named_rows (rows_of (drop l.i (by_client l.table.entries)))) ≡ drop l.at (named_rows (rows_of (by_client l.table.entries)))
