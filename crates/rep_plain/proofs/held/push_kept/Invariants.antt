use Rattle.std.proofs.Common.{◌≡◌, ◌++◌, filter, take}
use Rattle.rep_plain.specs.inner.Steps.{must_stay}
use Rattle.rep_plain.proofs.held.push_kept.Given as goal

abbrev pub invariant-loop-op : goal.invariant-loop-op
invariant-loop-op l = l.kept.items ≡ l.fn.kept.items ++ filter (must_stay l.visible l.ranges) (take l.op-index l.ops)
