use Rattle.std.proofs.Common.{◌≡◌}
use Rattle.rep_shared.specs.Steps.{capped}
use Rattle.rep_log.specs.Origins.{origins_above_gaps}
use Rattle.rep_log.proofs.acks.Acks.exceptions.Given as goal

abbrev pub invariant-loop-below : goal.invariant-loop-below
invariant-loop-below l = l.count ≡ capped (origins_above_gaps l.self l.below)
