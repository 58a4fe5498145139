-- From the start to the end, or to the event that stops the run.
use Rattle.gw_node.specs.Parts.{state_of}
use Rattle.gw_world.proofs.Fields.{led_at_start, stops_from_start, world_from_start}
use Rattle.gw_world.proofs.running.run.Goals as goal

pub play_all-requires : goal.play_all-requires
play_all-requires g c = led_at_start c.args.configs.now _ _ c.in_ok-nodes.ensures c.new-deltas.ensures.items

pub returns-in-Err-clause-err : goal.returns-in-Err-clause-err
returns-in-Err-clause-err g c =
    stops_from_start c.args.configs.now _ _ c.args.events.now c.in-Err.fault c.in_ok-nodes.ensures c.new-deltas.ensures.items c.in-Err.ensures.err

pub returns-clause-ok : goal.returns-clause-ok
returns-clause-ok g c =
    rw (c.new.ensures, c.new-2.ensures, c.new-3.ensures)
    (world_from_start (λ node. state_of g.R.Replica.kept node) c.args.configs.now c.args.events.now _ _ _ _ _
    c.in_ok-nodes.ensures c.new-deltas.ensures.items c.in-Ok.ensures.ok)
