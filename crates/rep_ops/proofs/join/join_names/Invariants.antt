use Rattle.std.proofs.Common.{◌≡◌}
use Rattle.rep_ops.specs.inner.Joining.{joined_ops}
use Rattle.rep_ops.proofs.join.join_names.Given as goal

abbrev pub invariant-loop-op : goal.invariant-loop-op
invariant-loop-op l = l.out.items ≡ joined_ops l.yielded
