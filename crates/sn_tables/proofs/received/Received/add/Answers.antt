use Rattle.std.proofs.Common.{◌≡◌, ℕ, List, false, sym, subst}
use Rattle.sn_tables.specs.Received.{id_has_no_room}
use Rattle.sn_tables.proofs.ReceivedPlaces.{room, with_there, insert_is, insert_table}
use Rattle.sn_tables.proofs.received.Received.add.Goals as goal

-- the id is there
pub returns-in-Ok-clause-ok : goal.returns-in-Ok-clause-ok
returns-in-Ok-clause-ok c =
    let there = with_there c.args.id c.self.inside.ids.items _ (rw c.as_slice.ensures.value at c.in-Ok.ensures.1) in
    rw (← c.self.view_is) (sym there)

-- the id is new
pub invariant_of-self : goal.invariant_of-self
invariant_of-self c =
    let place = rw c.as_slice.ensures.value at c.in-Err.ensures in
    let P : List ℕ → Type 0 = λ ids. id_has_no_room c.args.id ids ≡ false in
    let free = subst P (sym c.self.view_is) (sym c.if-has_no_room.ensures) in
    rw c.in_ok-insert_at-in-Err.ensures.ok (insert_table c.args.id _ _ c.self.invariant place.0 (room c.args.id _ _ place.1 free) place.1)

pub returns-in_ok-insert_at-in-Err-clause-ok : goal.returns-in_ok-insert_at-in-Err-clause-ok
returns-in_ok-insert_at-in-Err-clause-ok c =
    let place = rw c.as_slice.ensures.value at c.in-Err.ensures in
    rw (c.in_ok-insert_at-in-Err.ensures.ok, ← c.self.view_is) (insert_is c.args.id c.self.inside.ids.items c.in-Err.at place.1)
