use Rattle.std.proofs.Common.{◌≡◌, drop}
use Rattle.rep_op.specs.Sets.{operation_at}
use Rattle.rep_plain.proofs.reading.operation_at.Given as goal

abbrev pub invariant-loop-op : goal.invariant-loop-op
invariant-loop-op l = operation_at l.client (drop l.op-index l.ops) l.name ≡ operation_at l.client l.ops l.name
