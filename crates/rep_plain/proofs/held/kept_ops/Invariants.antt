use Rattle.std.proofs.Common.{◌≡◌, ◌++◌}
use Rattle.rep_plain.specs.inner.Rows.{kept_rows}
use Rattle.rep_plain.specs.Tables.{rows_of, AreEntries}
use Rattle.rep_plain.proofs.held.kept_ops.Given as goal

abbrev pub invariant-loop-client : goal.invariant-loop-client
invariant-loop-client l = record {
  kept : l.kept.items ++ kept_rows (rows_of l.client-iterator) ≡ kept_rows (rows_of l.table.entries);
  each : AreEntries l.client-iterator;
}
