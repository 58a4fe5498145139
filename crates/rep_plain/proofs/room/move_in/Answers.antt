use Rattle.std.proofs.Common.{◌∙◌}
use Rattle.rep_plain.proofs.Moves.{move_last, room_left, room_last, movable_left}
use Rattle.rep_plain.proofs.room.move_in.Goals as goal

pub replace-requires : goal.replace-requires
replace-requires c =
    room_last c.loop-client.table.entries c.loop-client.fresh.items c.pop.new.self.items c.in-Some.client c.in-Some.entry c.in-Some.ensures.items c.loop-client.invariant.1

pub loop-client-preserved : goal.loop-client-preserved
loop-client-preserved c =
    let es = c.loop-client.table.entries in
    let new = c.replace.new.table.entries in
    let fs = c.loop-client.fresh.items in
    let rest = c.pop.new.self.items in
    let all = c.in-Some.ensures.items in
    let is = c.replace.ensures in (
      move_last es new fs rest c.in-Some.client c.in-Some.entry all is ∙ c.loop-client.invariant.0,
      room_left es new fs rest c.in-Some.client c.in-Some.entry all is c.loop-client.invariant.1,
      λ h. movable_left es new fs rest c.in-Some.client c.in-Some.entry all is (c.loop-client.invariant.2 h),
    )
