use Rattle.std.proofs.Common.{◌≡◌, map, take}
use Rattle.std.specs.Arc.{arc_value}
use Rattle.gw_shift.proofs.row.shares_of.Given as goal

-- shares of each call so far
abbrev pub invariant-loop-step : goal.invariant-loop-step
invariant-loop-step l = l.all.items ≡ map arc_value (take l.step-index l.steps)
