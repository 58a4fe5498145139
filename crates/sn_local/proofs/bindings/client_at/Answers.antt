use Rattle.std.proofs.Common.{sym}
use Rattle.sn_local.proofs.Addresses.{found, absent}
use Rattle.sn_local.proofs.bindings.client_at.Goals as goal

-- the binding is at its place
pub returns-in-Ok : goal.returns-in-Ok
returns-in-Ok c = sym (found c.args.address c.args.bindings.now c.in-Ok.at c.index-bindings-at.result c.in-Ok.ensures.1)

-- it is not there
pub returns-in-Err : goal.returns-in-Err
returns-in-Err c = sym (absent c.args.address c.args.bindings.now c.in-Err.field-0 c.in-Err.ensures.1)
