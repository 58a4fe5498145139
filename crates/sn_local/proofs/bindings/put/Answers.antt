use Rattle.sn_local.proofs.Addresses.{set_is, insert_is}
use Rattle.sn_local.proofs.bindings.put.Goals as goal

-- its address has a binding, which is written over
pub returns-in-Ok-clause-items : goal.returns-in-Ok-clause-items
returns-in-Ok-clause-items c = set_is c.args.binding c.args.bindings.now.items c.in-Ok.at (rw c.as_slice.ensures.value at c.in-Ok.ensures.1)

-- its address has none
pub returns-in-Err-clause-items : goal.returns-in-Err-clause-items
returns-in-Err-clause-items c =
    rw (c.insert.ensures.items, c.unwrap.ensures) (insert_is c.args.binding c.args.bindings.now.items c.in-Err.at (rw c.as_slice.ensures.value at c.in-Err.ensures.1))
