use Rattle.std.proofs.Common.{◌-◌, ◌<◌, ◌++◌}
use Rattle.std.specs.FinMap.{find}
use Rattle.rep_op.specs.Orders.{operation_cmp}
use Rattle.rep_shared.specs.inner.Replays.{IsReplayed}
use Rattle.rep_log.proofs.replay.go_on.Given as goal

abbrev pub invariant-loop-prefix : goal.invariant-loop-prefix
invariant-loop-prefix l = (l.prefix < 257) × IsReplayed (λ k. find operation_cmp (l.stamp, k) (l.first ++ l.more)) l.session l.prefix

abbrev pub decreases-loop-prefix : goal.decreases-loop-prefix
decreases-loop-prefix l = 256 - l.prefix
