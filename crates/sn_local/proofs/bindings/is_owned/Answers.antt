-- A client that no operation names has no stamp.
use Rattle.std.proofs.Common.{◌≡◌, sym, subst, refl, false}
use Rattle.rep_model.specs.declared.view.ClientView.{ClientView}
use Rattle.sn_local.specs.Bindings.{is_stamp_of}
use Rattle.rep_model.proofs.Named.{unnamed-unseen}
use Rattle.sn_local.proofs.bindings.is_owned.Goals as goal

pub returns-in-None : goal.returns-in-None
returns-in-None g c =
    subst (λ (v : ClientView). false ≡ is_stamp_of c.args.gateway v.stamp)
    (sym (unnamed-unseen c.args.client.now (g.R.Replica.kept c.args.replica.now) c.in-None.ensures))
    refl
