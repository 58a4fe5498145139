use Rattle.std.proofs.Common.{◌≡◌, take}
use Rattle.std.specs.List.{flat_map}
use Rattle.rep_ops.specs.Splitting.{all_of}
use Rattle.rep_answer.specs.inner.Steps.{left_by_digest}
use Rattle.rep_answer.proofs.answering.left_of_deltas.Given as goal

abbrev pub invariant-loop-delta : goal.invariant-loop-delta
invariant-loop-delta l = l.left.items ≡ flat_map (left_by_digest l.digest) (all_of (take l.delta-index l.deltas))
