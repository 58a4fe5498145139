use Rattle.std.proofs.Common.{◌≡◌, ◌++◌, take}
use Rattle.std.specs.List.{flat_map}
use Rattle.rep_answer.specs.inner.Steps.{left_by_digest}
use Rattle.rep_answer.proofs.answering.add_left.Given as goal

abbrev pub invariant-loop-op : goal.invariant-loop-op
invariant-loop-op l = l.left.items ≡ l.fn.left.items ++ flat_map (left_by_digest l.digest) (take l.op-index l.ops)
