-- The node in this place moves, and no other.
use Rattle.std.proofs.Common.{map}
use Rattle.std.specs.Arc.{arc_value}
use Rattle.std.proofs.lemmas.Option.{slice_get_read}
use Rattle.std.proofs.lemmas.Result.{IfOk-weaker}
use Rattle.gw_node.specs.Parts.{state_of}
use Rattle.gw_answer.specs.Answers.{said}
use Rattle.gw_world.specs.inner.Events.{GoesTogether}
use Rattle.gw_world.proofs.Moving.{moves_in_place}
use Rattle.gw_world.proofs.rows.row_at.Goals as goal

pub returns : goal.returns
returns g c =
    IfOk-weaker c.row_to.result _ _
    (λ answers h. moves_in_place (λ node. state_of g.R.Replica.kept node) c.args.nodes.now.items c.args.place c.index_mut-node.result.now c.row_to.new.node (λ old new. GoesTogether old (map arc_value c.args.steps.now) (map said answers.items) new)
    (slice_get_read c.args.nodes.now.items _ c.args.place _ c.args.nodes.now.ok.0 c.requires.place c.index_mut-node.ensures.value) h)
    c.row_to.ensures
