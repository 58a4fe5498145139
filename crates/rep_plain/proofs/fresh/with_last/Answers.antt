use Rattle.std.proofs.Common.{◌++◌, ◌∷◌, [], ap, ◌∙◌}
use Rattle.rep_plain.proofs.fresh.with_last.Goals as goal

pub returns-in_ok-push-in-Ok-clause-ops : goal.returns-in_ok-push-in-Ok-clause-ops
returns-in_ok-push-in-Ok-clause-ops c = c.in_ok-push-in-Ok.ensures.items ∙ ap (λ ops. ops ++ c.args.op ∷ []) c.in-Ok.ensures.ops
