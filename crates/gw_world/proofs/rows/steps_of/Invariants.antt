-- The calls so far.
use Rattle.std.proofs.Common.{map, take}
use Rattle.std.specs.Arc.{arc_value}
use Rattle.gw_world.specs.Field.{AreStepsOf}
use Rattle.gw_world.specs.inner.Events.{listing}
use Rattle.gw_world.proofs.rows.steps_of.Given as goal

abbrev pub invariant-loop-call : goal.invariant-loop-call
invariant-loop-call l = AreStepsOf (listing l.deltas) (take l.call-index l.calls) (map arc_value l.steps.items)
