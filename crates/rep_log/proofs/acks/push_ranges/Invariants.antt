use Rattle.std.proofs.Common.{◌≡◌, ◌++◌, map, take}
use Rattle.rep_log.specs.Kept.{of_acks}
use Rattle.rep_log.proofs.acks.push_ranges.Given as goal

abbrev pub invariant-loop-range : goal.invariant-loop-range
invariant-loop-range l = l.kept.items ≡ l.fn.kept.items ++ of_acks l.client (map (λ r. (l.origin, r)) (take l.range-index l.ranges))
