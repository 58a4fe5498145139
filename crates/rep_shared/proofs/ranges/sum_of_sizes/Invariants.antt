use Rattle.std.proofs.Common.{◌≡◌, take, sum_by}
use Rattle.rep_model.specs.Limits.{size_of}
use Rattle.rep_shared.specs.Steps.{capped}
use Rattle.rep_shared.proofs.ranges.sum_of_sizes.Given as goal

abbrev pub invariant-loop-range : goal.invariant-loop-range
invariant-loop-range l = l.count ≡ capped (sum_by size_of (take l.range-index l.ranges))
