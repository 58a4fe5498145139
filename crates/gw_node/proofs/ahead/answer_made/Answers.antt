use Rattle.std.proofs.Common.{◌++◌, ap, ◌∙◌}
use Rattle.std.specs.Option.{option_to_list}
use Rattle.gw_answer.specs.declared.out.Out.{Out}
use Rattle.gw_node.proofs.ahead.answer_made.Goals as goal

pub returns-clause-ok : goal.returns-clause-ok
returns-clause-ok g c = c.in-Ok-push_made.ensures.ok ∙ ap (λ (out : Out). c.args.records.now ++ option_to_list out.made) (c.out.ensures ∙ c.in-Ok.ensures)
