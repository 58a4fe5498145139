-- Where there is a topic at the last place that is let in, none more is.
use Rattle.std.proofs.Common.{refl}
use Rattle.rep_model.specs.Topics.{all_retained}
use Rattle.sn_publish.proofs.Room.{room_left, none_left}
use Rattle.sn_publish.proofs.retaining.has_room.Goals as goal

pub returns-in-None : goal.returns-in-None
returns-in-None g c = room_left 1023 1024 (all_retained (g.R.Replica.kept c.args.replica.now)) refl c.in-None.ensures

pub returns-in-Some : goal.returns-in-Some
returns-in-Some g c = none_left 1023 1024 _ (all_retained (g.R.Replica.kept c.args.replica.now)) _ refl c.in-Some.ensures.0
