-- The gateway in this place is what its node keeps.
use Rattle.std.proofs.Common.{◌∙◌}
use Rattle.std.proofs.lemmas.Option.{slice_get_read}
use Rattle.gw_world.proofs.Moving.{there_in_place}
use Rattle.gw_world.proofs.running.play_show.Goals as goal

pub returns : goal.returns
returns g c = (
  _,
  there_in_place _ c.args.nodes.now.items c.args.place c.index-node.result.now
      (slice_get_read c.args.nodes.now.items _ c.args.place _ c.args.nodes.now.ok.0 c.requires c.index-node.ensures),
  c.in_ok-views.ensures,
  c.new.ensures ∙ c.in_ok-topics.ensures,
)
