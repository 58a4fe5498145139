-- Where nothing more can wait, none is handed.
use Rattle.std.proofs.Common.{◌∙◌, sym, ap, map, filter, take}
use Rattle.rep_model.specs.Topics.{is_offered, all_retained}
use Rattle.sn_subscribe.specs.Handing.{at_most}
use Rattle.sn_subscribe.proofs.handing.handed_for.Goals as goal

pub returns-then-room-eq0 : goal.returns-then-room-eq0
returns-then-room-eq0 g c =
    c.new.ensures.items
    ∙ ap (λ n. map (at_most c.args.qos) (take n (filter (is_offered c.args.asked.now) (all_retained (g.R.Replica.kept c.args.replica.now)))))
    (sym c.if-room-eq0.true ∙ c.saturating_sub-room.ensures)
