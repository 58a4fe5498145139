-- The node in this place moves, and no other.
use Rattle.std.proofs.lemmas.Option.{slice_get_read}
use Rattle.gw_node.specs.Parts.{state_of}
use Rattle.gw_world.specs.inner.Events.{FailsNext}
use Rattle.gw_world.proofs.Moving.{moves_in_place}
use Rattle.gw_world.proofs.field.fail_at.Goals as goal

pub returns : goal.returns
returns g c =
    moves_in_place (λ node. state_of g.R.Replica.kept node) c.args.nodes.now.items c.args.place c.index_mut-node.result.now c.fail_in.new.node (λ old new. FailsNext old c.args.bytes c.args.sync new)
    (slice_get_read c.args.nodes.now.items _ c.args.place _ c.args.nodes.now.ok.0 c.requires c.index_mut-node.ensures.value)
    c.fail_in.ensures
