use Rattle.std.specs.FinMap.{find}
use Rattle.rep_op.specs.Orders.{operation_cmp}
use Rattle.rep_shared.specs.inner.Replays.{IsReplayed}
use Rattle.rep_plain.proofs.replay.replay.Given as goal

abbrev pub invariant-loop-counter : goal.invariant-loop-counter
invariant-loop-counter l = IsReplayed (λ k. find operation_cmp (l.stamp, k) l.known.entries) l.session l.counter
