use Rattle.std.proofs.Common.{◌≡◌, sym, subst, false, List}
use Rattle.sn_tables.specs.declared.topics.TopicEntry.{TopicEntry}
use Rattle.sn_tables.specs.Topics.{topic_has_no_room}
use Rattle.sn_tables.proofs.TopicPlaces.{room, set_is, insert_is, set_table, insert_table}
use Rattle.sn_tables.proofs.topics.Topics.set.Goals as goal

-- the entry was there, and is written over
pub invariant_of-self : goal.invariant_of-self
invariant_of-self c = set_table _ _ _ c.self.invariant (rw c.as_slice.ensures.value at c.in-Ok.ensures.1)

pub returns-in-Ok-clause-ok : goal.returns-in-Ok-clause-ok
returns-in-Ok-clause-ok c =
    let entry : TopicEntry = record { id = c.args.id; name = c.in_ok-name.name; known = c.args.known } in
    let is = set_is c.self.inside.entries.items c.in-Ok.at entry (rw c.as_slice.ensures.value at c.in-Ok.ensures.1) in
    rw (← c.in_ok-name.ensures, ← c.self.view_is) is

-- the entry is new
pub invariant_of-self-in-Continue-branch-2 : goal.invariant_of-self-in-Continue-branch-2
invariant_of-self-in-Continue-branch-2 c =
    let place = rw c.as_slice.ensures.value at c.in-Err.ensures in
    let P : List TopicEntry → Type 0 = λ entries. topic_has_no_room c.args.id entries ≡ false in
    let free = subst P (sym c.self.view_is) (sym c.if-has_no_room.ensures) in
    rw c.in_ok-insert_at-in-Err.ensures.ok (insert_table _ _ _ c.self.invariant place.0 (room _ _ _ place.1 free) place.1)

pub returns-in_ok-insert_at-in-Err-clause-ok : goal.returns-in_ok-insert_at-in-Err-clause-ok
returns-in_ok-insert_at-in-Err-clause-ok c =
    let entry : TopicEntry = record { id = c.args.id; name = c.in_ok-name.name; known = c.args.known } in
    let place = rw c.as_slice.ensures.value at c.in-Err.ensures in
    rw (c.in_ok-insert_at-in-Err.ensures.ok, ← c.in_ok-name.ensures, ← c.self.view_is) (insert_is c.self.inside.entries.items c.in-Err.at entry place.1)
