use Rattle.std.proofs.Common.{sym, ap, subst, ◌∙◌}
use Rattle.std.specs.BTreeMap.{is_at, insert_entry}
use Rattle.std.specs.Map.{lookup}
use Rattle.rep_op.specs.Orders.{client_cmp}
use Rattle.rep_plain.specs.inner.Tables.{IsRoomier}
use Rattle.rep_plain.proofs.Moves.{roomier_itself, roomier_place, place_there, entry_empty, some_there}
use Rattle.rep_shared.proofs.Found.{none_there}
use Rattle.rep_plain.proofs.room.add_place.Goals as goal

pub returns-in_ok-insert-clause-roomier : goal.returns-in_ok-insert-clause-roomier
returns-in_ok-insert-clause-roomier c =
    let client = c.args.client.now in
    let old = c.args.table.now.entries in
    let e = c.empty.result in
    let is = c.in_ok-insert.ensures.entries ∙ ap (λ k. insert_entry client_cmp old k e) c.in_ok-copied.ensures in
    let absent = none_there (lookup (is_at (client_cmp client)) old) (sym c.contains_key.ensures ∙ c.if-not-contains_key.true) in
    roomier_place old c.insert.new.self.entries client e is absent c.empty.ensures.ops
    (entry_empty client e c.empty.ensures.ops (c.empty.ensures.worked_out client) c.empty.ensures.open.0 c.empty.ensures.open.1 c.empty.ensures.open.2)

pub returns-in_ok-insert-clause-there : goal.returns-in_ok-insert-clause-there
returns-in_ok-insert-clause-there c =
    let old = c.args.table.now.entries in
    let is = c.in_ok-insert.ensures.entries ∙ ap (λ k. insert_entry client_cmp old k c.empty.result) c.in_ok-copied.ensures in
    place_there old c.insert.new.self.entries c.args.client.now c.empty.result is

pub returns-else-not-contains_key-clause-there : goal.returns-else-not-contains_key-clause-there
returns-else-not-contains_key-clause-there c = some_there c.args.client.now c.args.table.now.entries (sym c.contains_key.ensures ∙ c.if-not-contains_key.false)

pub returns-in_err-copied-clause-roomier : goal.returns-in_err-copied-clause-roomier
returns-in_err-copied-clause-roomier c = roomier_itself c.args.table.now.entries

pub returns-in_err-insert-clause-roomier : goal.returns-in_err-insert-clause-roomier
returns-in_err-insert-clause-roomier c = subst (IsRoomier c.args.table.now.entries) (sym c.in_err-insert.ensures.err) (roomier_itself c.args.table.now.entries)

pub returns-else-not-contains_key-clause-roomier : goal.returns-else-not-contains_key-clause-roomier
returns-else-not-contains_key-clause-roomier c = roomier_itself c.args.table.now.entries
