use Rattle.std.proofs.Common.{◌++◌, ◌∷◌, [], take, sym, ap, subst, ◌∙◌}
use Rattle.std.proofs.lemmas.List.{take_more}
use Rattle.rep_plain.specs.Tables.{rows_of, HaveRoom}
use Rattle.rep_plain.proofs.Moves.{roomier_itself, roomier_then, room_more, rows_last}
use Rattle.rep_plain.proofs.room.make_room.Goals as goal

pub loop-row-preserved : goal.loop-row-preserved
loop-row-preserved c =
    let old = c.loop-row.table.entries in
    let new = c.add_place.new.table.entries in
    let fresh = c.args.fresh.now in
    let row = c.row-item.result in
    let done = take c.loop-row.row-index fresh in
    let h = c.in_ok-add_place.ensures.roomier in
    let is = ap rows_of (take_more fresh c.loop-row.row-index row c.loop-row-test.true ∙ ap (λ r. done ++ r ∷ []) (sym c.row-item.is)) ∙ rows_last done row in
    (roomier_then c.loop-row.invariant.0 h, subst (HaveRoom (rows_of new)) (sym is) (room_more old new (rows_of done) (row.0, row.1.ops.items) h c.loop-row.invariant.1 c.in_ok-add_place.ensures.there))

pub loop-row-init : goal.loop-row-init
loop-row-init c = (roomier_itself c.args.table.now.entries, tt)

pub returns-in_err-add_place-clause-roomier : goal.returns-in_err-add_place-clause-roomier
returns-in_err-add_place-clause-roomier c = roomier_then c.loop-row.invariant.0 c.in_err-add_place.ensures.roomier
