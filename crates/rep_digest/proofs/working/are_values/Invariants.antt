use Rattle.std.proofs.Common.{take}
use Rattle.rep_ops.specs.Splitting.{all_of}
use Rattle.rep_op.specs.Values.{AreValues}
use Rattle.rep_digest.proofs.working.are_values.Given as goal

abbrev pub invariant-loop-delta : goal.invariant-loop-delta
invariant-loop-delta l = AreValues (all_of (take l.delta-index l.deltas))
