use Rattle.sn_tables.proofs.SubscriptionPlaces.{remove_is, remove_none, remove_table}
use Rattle.sn_tables.proofs.subscriptions.Subscriptions.remove.Goals as goal

pub invariant_of-self : goal.invariant_of-self
invariant_of-self c = rw c.remove.ensures.items (remove_table _ _ c.args.filter.now c.self.invariant (rw c.as_slice.ensures.value at c.in-Ok.ensures.1))

pub returns-in-Ok : goal.returns-in-Ok
returns-in-Ok c =
    let is = remove_is c.self.inside.entries.items c.in-Ok.at c.args.filter.now (rw c.as_slice.ensures.value at c.in-Ok.ensures.1) in
    rw (c.remove.ensures.items, ← c.self.view_is) is

pub returns-in-Err : goal.returns-in-Err
returns-in-Err c =
    let is = remove_none c.self.inside.entries.items c.in-Err.field-0 c.args.filter.now (rw c.as_slice.ensures.value at c.in-Err.ensures.1) in
    rw (← c.self.view_is) is
