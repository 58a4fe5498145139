use Rattle.std.proofs.Common.{◌≡◌, ◌++◌}
use Rattle.rep_log.specs.Kept.{of_acks}
use Rattle.rep_log.specs.Origins.{origins_of, ranges_in}
use Rattle.rep_log.proofs.acks.push_origins.Given as goal

abbrev pub invariant-loop-origin : goal.invariant-loop-origin
invariant-loop-origin l = l.kept.items ++ of_acks l.client (ranges_in (origins_of l.origin-iterator)) ≡ l.fn.kept.items ++ of_acks l.client (ranges_in (origins_of l.origins.entries))
