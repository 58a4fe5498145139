use Rattle.std.proofs.Common.{◌≡◌}
use Rattle.rep_shared.specs.Steps.{capped}
use Rattle.rep_plain.specs.inner.Steps.{above_gaps}
use Rattle.rep_plain.proofs.ranges.exceptions.Given as goal

abbrev pub invariant-loop-below : goal.invariant-loop-below
invariant-loop-below l = l.count ≡ capped (above_gaps l.ranges l.below)
