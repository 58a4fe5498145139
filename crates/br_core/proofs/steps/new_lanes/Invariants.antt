use Rattle.std.proofs.Common.{◌≡◌, ◌++◌, drop, map}
use Rattle.br_core.specs.Begins.{new_lane}
use Rattle.br_core.proofs.steps.new_lanes.Given as goal

abbrev pub invariant-loop-own : goal.invariant-loop-own
invariant-loop-own l = l.lanes.items ++ map (λ own. new_lane) (drop l.own-index l.settings.lanes) ≡ map (λ own. new_lane) l.settings.lanes
