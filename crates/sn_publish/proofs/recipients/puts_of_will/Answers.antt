-- Who leaves out the message for the client whose will it is asks all others.
use Rattle.std.proofs.Common.{◌≡◌, List, filter, ap, ◌∙◌}
use Rattle.rep_model.specs.Views.{clients}
use Rattle.sn_plan.specs.declared.draft.NewPut.{NewPut}
use Rattle.sn_local.specs.Seen.{seen_of}
use Rattle.sn_publish.specs.Recipients.{is_another}
use Rattle.sn_publish.proofs.Leaving.{left_out}
use Rattle.sn_publish.proofs.recipients.puts_of_will.Goals as goal

pub returns : goal.returns
returns g c =
    let S = g.R.Replica.kept c.args.replica.now in
    c.leave_out.ensures
    ∙ ap (λ (puts : List NewPut). filter (λ (put : NewPut). is_another c.args.client.now put.client) puts) c.in_ok-puts.ensures
    ∙ left_out (seen_of S) c.args.will.now.topic c.args.will.now.qos c.args.will.now.message c.args.client.now (clients S)
