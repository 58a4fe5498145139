use Rattle.std.proofs.Common.{◌≡◌, take}
use Rattle.rep_ops.specs.Splitting.{all_of}
use Rattle.rep_digest.specs.inner.Steps.{groups}
use Rattle.rep_digest.proofs.groups.acknowledgements.Given as goal

abbrev pub invariant-loop-delta : goal.invariant-loop-delta
invariant-loop-delta l = l.groups.items ≡ groups l.clients (all_of (take l.delta-index l.deltas))
