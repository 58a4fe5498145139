use Rattle.std.proofs.Common.{◌≡◌, ◌≤◌, length, drop}
use Rattle.rep_model.specs.Fresh.{seq_of, largest}
use Rattle.rep_plain.proofs.reading.greatest_seq.Given as goal

abbrev pub invariant-loop-i : goal.invariant-loop-i
invariant-loop-i l = (l.i ≤ length l.ops) × (l.most ≡ largest (seq_of l.client l.gateway) (drop l.i l.ops))

abbrev pub decreases-loop-i : goal.decreases-loop-i
decreases-loop-i l = l.i
