use Rattle.std.proofs.Common.{◌≡◌, ◌++◌}
use Rattle.rep_log.specs.Origins.{origins_of}
use Rattle.rep_log.proofs.acks.copy_origins.Given as goal

abbrev pub invariant-loop-origin : goal.invariant-loop-origin
invariant-loop-origin l = origins_of l.made.entries ++ origins_of l.origin-iterator ≡ origins_of l.origins.entries
