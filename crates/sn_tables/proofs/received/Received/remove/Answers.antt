use Rattle.sn_tables.proofs.ReceivedPlaces.{remove_is, remove_none, remove_table}
use Rattle.sn_tables.proofs.received.Received.remove.Goals as goal

pub invariant_of-self : goal.invariant_of-self
invariant_of-self c = rw c.remove.ensures.items (remove_table c.args.id _ _ c.self.invariant (rw c.as_slice.ensures.value at c.in-Ok.ensures.1))

pub returns-in-Ok : goal.returns-in-Ok
returns-in-Ok c =
    let is = remove_is c.args.id c.self.inside.ids.items c.in-Ok.at (rw c.as_slice.ensures.value at c.in-Ok.ensures.1) in
    rw (c.remove.ensures.items, ← c.self.view_is) is

pub returns-in-Err : goal.returns-in-Err
returns-in-Err c =
    let is = remove_none c.args.id c.self.inside.ids.items c.in-Err.field-0 (rw c.as_slice.ensures.value at c.in-Err.ensures.1) in
    rw (← c.self.view_is) is
