use Rattle.rep_answer.proofs.laws.answer_completes.Goals as goal
use Rattle.rep_answer.proofs.Completing.{completed}

pub returns : goal.returns
returns c = λ S T X Y rest. completed S T X rest Y
