-- Both gateways are what their nodes keep.
use Rattle.std.proofs.Common.{length, refl}
use Rattle.std.proofs.lemmas.Option.{slice_get_read}
use Rattle.gw_node.specs.Parts.{state_of}
use Rattle.gw_answer.specs.Answers.{said}
use Rattle.gw_world.proofs.Moving.{ask_in_place}
use Rattle.gw_world.proofs.running.play_ask.Goals as goal

pub returns : goal.returns
returns g c = (
  ask_in_place (λ node. state_of g.R.Replica.kept node) c.args.nodes.now c.args.place c.args.other c.index-nodes-place.result c.index-nodes-other.result
      (slice_get_read c.args.nodes.now (length c.args.nodes.now) c.args.place c.index-nodes-place.result refl c.requires.place c.index-nodes-place.is)
      (slice_get_read c.args.nodes.now (length c.args.nodes.now) c.args.other c.index-nodes-other.result refl c.requires.other c.index-nodes-other.is)
      (said c.in_ok-answer.answer) c.in_ok-answer.ensures,
  c.in_ok-record_answered.ensures,
)
