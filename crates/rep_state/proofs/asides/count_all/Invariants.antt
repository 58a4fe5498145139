use Rattle.std.proofs.Common.{◌≡◌, ◌+◌, drop}
use Rattle.rep_shared.specs.Rows.{count_named}
use Rattle.rep_state.specs.Tables.{by_client, rows_of}
use Rattle.rep_state.proofs.asides.count_all.Given as goal

abbrev pub invariant-loop-i : goal.invariant-loop-i
invariant-loop-i l = l.count + count_named (rows_of (drop l.i (by_client l.table.entries))) ≡ count_named (rows_of (by_client l.table.entries))
