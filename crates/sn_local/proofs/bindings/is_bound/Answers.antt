use Rattle.std.proofs.Common.{sym, ◌∙◌}
use Rattle.rep_model.proofs.Readers.{same_client-true}
use Rattle.sn_local.proofs.Addresses.{bound_same}
use Rattle.sn_local.proofs.bindings.is_bound.Goals as goal

-- the binding of the address is there, and has the client
pub returns-in-Ok : goal.returns-in-Ok
returns-in-Ok c =
    λ h. bound_same c.args.address c.args.client.now c.args.bindings.now c.in-Ok.at c.index-bindings-at.result c.in-Ok.ensures.1 c.requires.1
    (same_client-true _ c.args.client.now (sym c.eq.ensures ∙ h))
