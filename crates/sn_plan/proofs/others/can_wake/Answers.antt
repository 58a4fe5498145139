-- A client that no operation names has no session.
use Rattle.std.proofs.Common.{◌≡◌, sym, subst, refl, false}
use Rattle.rep_model.specs.declared.view.ClientView.{ClientView}
use Rattle.sn_plan.specs.Others.{can_wake as can_wake_at}
use Rattle.rep_model.proofs.Named.{unnamed-unseen}
use Rattle.sn_plan.proofs.others.can_wake.Goals as goal

pub returns-in-None : goal.returns-in-None
returns-in-None g c =
    subst (λ (v : ClientView). false ≡ can_wake_at v.session)
    (sym (unnamed-unseen c.args.client.now (g.R.Replica.kept c.args.replica.now) c.in-None.ensures))
    refl
