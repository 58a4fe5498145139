-- The gateways so far.
use Rattle.std.proofs.Common.{map, take}
use Rattle.gw_event.specs.Gateways.{new_gateway}
use Rattle.gw_node.specs.Parts.{state_of}
use Rattle.gw_world.specs.Keeping.{AreShown}
use Rattle.gw_world.proofs.running.new_nodes.Given as goal

abbrev pub invariant-loop-config : goal.invariant-loop-config
invariant-loop-config g l = AreShown (map new_gateway (take l.config-index l.configs)) (map (λ node. state_of g.R.Replica.kept node) l.nodes.items)
