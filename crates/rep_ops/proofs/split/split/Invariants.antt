use Rattle.rep_ops.proofs.Splitting.{AreParts}
use Rattle.rep_ops.proofs.split.split.Given as goal

abbrev pub invariant-loop-op : goal.invariant-loop-op
invariant-loop-op l = AreParts l.fn.ops.items l.deltas.items l.part.items l.op-iterator.rest.items l.measure
