use Rattle.std.proofs.Common.{ap, ◌∙◌}
use Rattle.gw_answer.specs.Answers.{only_sends}
use Rattle.gw_node.proofs.ahead.answer_taken.Goals as goal

pub returns-clause-answer : goal.returns-clause-answer
returns-clause-answer g c = c.in-Ok.ensures ∙ c.of_sends.ensures ∙ ap only_sends c.empty.ensures
