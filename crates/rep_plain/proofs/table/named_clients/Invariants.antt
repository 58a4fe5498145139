use Rattle.std.proofs.Common.{◌≡◌, ◌++◌}
use Rattle.rep_shared.specs.inner.Rows.{named_rows}
use Rattle.rep_plain.specs.Tables.{rows_of}
use Rattle.rep_plain.proofs.table.named_clients.Given as goal

abbrev pub invariant-loop-client : goal.invariant-loop-client
invariant-loop-client l = l.clients.items ++ named_rows (rows_of l.client-iterator) ≡ named_rows (rows_of l.table.entries)
