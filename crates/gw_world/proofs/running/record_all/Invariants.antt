-- The deltas so far have joined the list.
use Rattle.std.proofs.Common.{take}
use Rattle.gw_world.specs.inner.Events.{Join}
use Rattle.gw_world.proofs.running.record_all.Given as goal

abbrev pub invariant-loop-delta : goal.invariant-loop-delta
invariant-loop-delta l = Join l.fn.deltas.items (take l.delta-index l.more) l.deltas.items
