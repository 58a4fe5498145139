use Rattle.std.proofs.Common.{◌≡◌, IsTrue, drop}
use Rattle.sn_tables.specs.Tables.{is_ascending}
use Rattle.rep_retain.specs.Tables.{entry_cmp}
use Rattle.rep_retain.specs.inner.Tables.{with_ops}
use Rattle.rep_retain.proofs.table.put_all.Given as goal

abbrev pub invariant-loop-op : goal.invariant-loop-op
invariant-loop-op l = record {
  ascending : IsTrue (is_ascending entry_cmp l.entries.items);
  made : with_ops l.entries.items (drop l.op-index l.ops) ≡ with_ops l.fn.entries.items l.ops;
}
