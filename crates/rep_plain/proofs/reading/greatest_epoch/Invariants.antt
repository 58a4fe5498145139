use Rattle.std.proofs.Common.{◌≡◌, ◌≤◌, length, drop}
use Rattle.rep_model.specs.Fresh.{greatest_epoch}
use Rattle.rep_plain.proofs.reading.greatest_epoch.Given as goal

abbrev pub invariant-loop-i : goal.invariant-loop-i
invariant-loop-i l = (l.i ≤ length l.ops) × (l.most ≡ greatest_epoch l.client (drop l.i l.ops))

abbrev pub decreases-loop-i : goal.decreases-loop-i
decreases-loop-i l = l.i
