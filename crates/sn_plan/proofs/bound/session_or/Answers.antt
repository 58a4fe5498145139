-- A client that no operation names has no session.
use Rattle.std.proofs.Common.{sym, ap, ◌∙◌, unwrap_or}
use Rattle.sn_session.specs.Session.{empty_session}
use Rattle.rep_model.specs.declared.view.ClientView.{ClientView}
use Rattle.rep_model.proofs.Named.{unnamed-unseen}
use Rattle.sn_plan.proofs.bound.session_or.Goals as goal

pub returns-in-None : goal.returns-in-None
returns-in-None g c =
    c.requires ∙ ap (λ (v : ClientView). unwrap_or v.session empty_session) (sym (unnamed-unseen c.args.client.now (g.R.Replica.kept c.args.replica.now) c.in-None.ensures))
