use Rattle.std.proofs.Common.{◌≡◌, ◌≤◌, length, drop}
use Rattle.rep_model.specs.Fresh.{largest}
use Rattle.rep_entry.specs.inner.Numbers.{seq_from}
use Rattle.rep_state.proofs.numbers.greatest_put.Given as goal

abbrev pub invariant-loop-i : goal.invariant-loop-i
invariant-loop-i l = (l.i ≤ length l.puts) × (largest (seq_from l.gateway) (drop l.i l.puts) ≡ 0)

abbrev pub decreases-loop-i : goal.decreases-loop-i
decreases-loop-i l = l.i
