-- The events so far led here.
use Rattle.std.proofs.Common.{map, take}
use Rattle.gw_node.specs.Parts.{state_of}
use Rattle.gw_world.specs.inner.Events.{RunOn}
use Rattle.gw_world.proofs.running.play_all.Given as goal

abbrev pub invariant-loop-index : goal.invariant-loop-index
invariant-loop-index g l =
    RunOn (map (λ node. state_of g.R.Replica.kept node) l.fn.nodes.items) l.fn.deltas.items (take l.index l.events) l.answers.items
    (map (λ node. state_of g.R.Replica.kept node) l.nodes.items) l.deltas.items
