-- The deltas so far are taken.
use Rattle.std.proofs.Common.{◌≡◌, [], take, drop}
use Rattle.rep_ops.specs.Splitting.{all_of}
use Rattle.gw_node.specs.Keeping.{Keeps}
use Rattle.gw_node.specs.Opening.{FitInTurn}
use Rattle.gw_node.proofs.opening.take_all.Given as goal

abbrev pub invariant-loop-delta : goal.invariant-loop-delta
invariant-loop-delta g l = Keeps (all_of (take l.delta-index l.deltas)) (g.R.Replica.kept l.replica) × (l.delta-index ≡ 0 → g.R.Replica.kept l.replica ≡ [])
    × (FitInTurn (all_of (take l.delta-index l.deltas)) (drop l.delta-index l.deltas) → FitInTurn [] l.deltas)
