-- A client that no operation names has the view of an unseen client.
use Rattle.std.proofs.Common.{sym, ap, ◌∙◌}
use Rattle.rep_model.specs.Views.{unseen}
use Rattle.rep_model.specs.Fresh.{next_epoch}
use Rattle.sn_plan.specs.Numbering.{start_of}
use Rattle.rep_model.proofs.Named.{unnamed-unseen}
use Rattle.sn_plan.proofs.plan.writer_of.Goals as goal

pub returns-in-None : goal.returns-in-None
returns-in-None g c =
    let kept = g.R.Replica.kept c.args.replica.now in
    let unnamed = unnamed-unseen c.args.client.now kept c.in-None.ensures in
    c.start_unseen.ensures c.args.gateway
    ∙ (ap (λ next. start_of c.args.gateway unseen next) c.next_epoch-next.ensures
    ∙ ap (λ v. start_of c.args.gateway v (next_epoch c.args.client.now kept)) (sym unnamed))
