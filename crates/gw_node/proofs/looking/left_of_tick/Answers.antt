use Rattle.std.proofs.Common.{refl, ap, ◌∙◌, rules}
use Rattle.gw_answer.specs.Answers.{only_sends}
use Rattle.gw_node.proofs.Unwritten.{some_operations}
use Rattle.gw_node.proofs.looking.left_of_tick.Goals as goal

pub returns-clause-found : goal.returns-clause-found
returns-clause-found g c = (refl, some_operations c.args.plan.ops (search rules), c.of_sends.ensures ∙ ap only_sends c.empty.ensures, refl)
