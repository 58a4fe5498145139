-- One more record stands at its place.
use Rattle.jr_read.proofs.Standing.{AreSoFar, has_length, has_record, one_more}
use Rattle.jr_read.proofs.places.places_of.Goals as goal

pub record_size-octets-requires : goal.record_size-octets-requires
record_size-octets-requires c =
    has_length c.loop-delta.left.now c.behind_seal-start.result.now c.args.deltas.now c.loop-delta._delta-index c.loop-delta-test.true c.loop-delta.invariant.all c.behind_seal-start.ensures

pub split_at-requires : goal.split_at-requires
split_at-requires c =
    has_record c.loop-delta.left.now c.behind_seal-start.result.now c.args.deltas.now c.loop-delta._delta-index c.record_size-octets.result c.loop-delta-test.true c.loop-delta.invariant.all
    c.behind_seal-start.ensures c.record_size-octets.ensures

pub loop-delta-preserved : goal.loop-delta-preserved
loop-delta-preserved c =
    let i = c.loop-delta.invariant in
    let so_far : AreSoFar c.args.slot.now c.loop-delta.left.now c.loop-delta.places.items c.args.deltas.now c.loop-delta._delta-index =
    record { placed = i.placed; inside = i.inside; place = i.place; all = i.all }
    in
    let h =
    one_more c.args.slot.now c.loop-delta.left.now c.behind_seal-start.result.now c.split_at.result.1.now c.loop-delta.places.items c.push.new.self.items c.args.deltas.now c.loop-delta._delta-index
    c.record_size-octets.result c.loop-delta-test.true so_far c.behind_seal-start.ensures c.record_size-octets.ensures c.split_at.ensures.back c.in_ok-push.ensures.items
    in
    record { placed = h.placed; inside = h.inside; place = h.place; all = h.all }
