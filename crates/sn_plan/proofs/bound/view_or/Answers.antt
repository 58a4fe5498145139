-- A client that no operation names has the view of an unseen client.
use Rattle.std.proofs.Common.{sym, ◌∙◌}
use Rattle.rep_model.proofs.Named.{unnamed-unseen}
use Rattle.sn_plan.proofs.bound.view_or.Goals as goal

pub returns-in-None : goal.returns-in-None
returns-in-None g c = c.requires ∙ sym (unnamed-unseen c.args.client.now (g.R.Replica.kept c.args.replica.now) c.in-None.ensures)
