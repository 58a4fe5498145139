use Rattle.std.proofs.Common.{◌≡◌, drop}
use Rattle.rep_op.specs.Sets.{put_at}
use Rattle.rep_plain.proofs.reading.put_at.Given as goal

abbrev pub invariant-loop-op : goal.invariant-loop-op
invariant-loop-op l = put_at l.client (drop l.op-index l.ops) l.name ≡ put_at l.client l.ops l.name
