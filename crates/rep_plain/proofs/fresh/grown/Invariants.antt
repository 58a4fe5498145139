use Rattle.std.specs.Vec.Iter.{into_iter_items}
use Rattle.rep_op.specs.Orders.{AreOfClients}
use Rattle.rep_plain.specs.inner.Rows.{IsGrown}
use Rattle.rep_plain.specs.Tables.{rows_of}
use Rattle.rep_plain.specs.inner.Tables.{groups_of}
use Rattle.rep_plain.proofs.fresh.grown.Given as goal

abbrev pub invariant-loop-op : goal.invariant-loop-op
invariant-loop-op l = record {
  grown : IsGrown (rows_of l.table.entries) l.yielded (groups_of l.groups.entries);
  clients : AreOfClients (into_iter_items l.op-iterator);
}
