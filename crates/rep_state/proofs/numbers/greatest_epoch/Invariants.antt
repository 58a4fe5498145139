use Rattle.std.proofs.Common.{◌≡◌, ◌≤◌, length, drop}
use Rattle.std.specs.Map.{keys_of}
use Rattle.rep_model.specs.Fresh.{largest}
use Rattle.rep_entry.specs.inner.Numbers.{operation_epoch}
use Rattle.rep_state.proofs.numbers.greatest_epoch.Given as goal

abbrev pub invariant-loop-i : goal.invariant-loop-i
invariant-loop-i l = (l.i ≤ length l.ops) × (l.most ≡ largest operation_epoch (keys_of (drop l.i l.ops)))

abbrev pub decreases-loop-i : goal.decreases-loop-i
decreases-loop-i l = l.i
