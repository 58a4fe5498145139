use Rattle.std.proofs.Common.{refl, ap, ◌∙◌, rules}
use Rattle.gw_answer.specs.Answers.{only_sends}
use Rattle.gw_event.specs.Excuses.{excuses}
use Rattle.gw_node.specs.Parts.{state_of}
use Rattle.gw_node.proofs.Unwritten.{nothing_done, some_operations}
use Rattle.gw_node.proofs.looking.left_of_frame.Goals as goal

pub returns-in_default-clause-found : goal.returns-in_default-clause-found
returns-in_default-clause-found g c = nothing_done (state_of g.R.Replica.kept c.args.node.now)

pub returns-clause-found : goal.returns-clause-found
returns-clause-found g c = (refl, some_operations c.args.plan.ops (search rules), c.of_sends.ensures ∙ ap only_sends (c.in-Ok.ensures ∙ ap (λ sends. excuses c.args.from c.args.frame.now sends) c.as_slice.ensures), refl)
