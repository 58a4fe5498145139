use Rattle.std.proofs.Common.{◌≡◌, ◌+◌}
use Rattle.rep_shared.specs.Rows.{count_named}
use Rattle.rep_plain.specs.Tables.{rows_of}
use Rattle.rep_plain.proofs.asides.count_all.Given as goal

abbrev pub invariant-loop-client : goal.invariant-loop-client
invariant-loop-client l = l.count + count_named (rows_of l.client-iterator) ≡ count_named (rows_of l.table.entries)
