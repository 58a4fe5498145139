-- The node in this place moves, and no other.
use Rattle.std.proofs.lemmas.Option.{slice_get_read}
use Rattle.std.proofs.lemmas.Result.{IfOk-weaker}
use Rattle.gw_answer.specs.declared.step.Step.TheVariants as steps
use Rattle.gw_node.specs.Parts.{state_of}
use Rattle.gw_answer.specs.Answers.{said}
use Rattle.gw_world.specs.inner.Events.{GoesOn}
use Rattle.gw_world.proofs.Moving.{moves_in_place}
use Rattle.gw_world.proofs.field.frame_at.Goals as goal

pub returns : goal.returns
returns g c =
    IfOk-weaker c.frame_to.result _ _
    (λ answer h. moves_in_place (λ node. state_of g.R.Replica.kept node) c.args.nodes.now.items c.args.place c.index_mut-node.result.now c.frame_to.new.node (λ old new. GoesOn old (steps.Frame c.args.from c.args.bytes.now c.args.now) (said answer) new)
    (slice_get_read c.args.nodes.now.items _ c.args.place _ c.args.nodes.now.ok.0 c.requires c.index_mut-node.ensures.value) h)
    c.frame_to.ensures
