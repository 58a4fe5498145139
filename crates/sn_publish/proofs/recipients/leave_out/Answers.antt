use Rattle.std.proofs.Common.{rules}
use Rattle.std.proofs.lemmas.Fn.{filter_same}
use Rattle.sn_plan.specs.declared.draft.NewPut.{NewPut}
use Rattle.sn_publish.specs.Recipients.{is_another}
use Rattle.sn_publish.proofs.recipients.leave_out.Goals as goal

pub returns : goal.returns
returns c = filter_same _ (λ (put : NewPut). is_another c.args.client.now put.client) _ (λ put kept after called. search rules) _ _ c.retain.ensures.filtered
