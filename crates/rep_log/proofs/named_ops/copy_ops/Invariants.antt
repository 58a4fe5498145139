use Rattle.std.proofs.Common.{◌≡◌, take}
use Rattle.rep_log.proofs.named_ops.copy_ops.Given as goal

abbrev pub invariant-loop-op : goal.invariant-loop-op
invariant-loop-op l = l.made.items ≡ take l.op-index l.ops
