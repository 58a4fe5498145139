-- The place is to be found among what is left.
use Rattle.std.proofs.Common.{◌≡◌, map, drop}
use Rattle.gw_node.specs.Parts.{state_of}
use Rattle.gw_world.specs.inner.Events.{place_in}
use Rattle.gw_world.proofs.field.place_of.Given as goal

abbrev pub invariant-loop-place : goal.invariant-loop-place
invariant-loop-place g l =
    place_in l.number l.place (map (λ node. state_of g.R.Replica.kept node) (drop l.place l.nodes))
    ≡ place_in l.number 0 (map (λ node. state_of g.R.Replica.kept node) l.nodes)
