-- One more gateway.
use Rattle.gw_node.specs.Parts.{state_of}
use Rattle.gw_world.proofs.Fields.{nodes_more}
use Rattle.gw_world.proofs.running.new_nodes.Goals as goal

pub loop-config-preserved : goal.loop-config-preserved
loop-config-preserved g c =
    nodes_more (λ node. state_of g.R.Replica.kept node) c.args.configs.now c.loop-config.config-index c.config-item.result
    c.loop-config.nodes.items c.push.new.self.items c.in_ok-new_node.field-0 c.loop-config-test.true c.config-item.is c.in_ok-push.ensures.items
    c.in_ok-new_node.ensures c.loop-config.invariant
