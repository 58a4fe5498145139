use Rattle.rep_ops.proofs.Format.{read_again, read_spelled}
use Rattle.rep_ops.proofs.delta.one_reading.Goals as goal

pub returns-clause-again : goal.returns-clause-again
returns-clause-again c = read_again

pub returns-clause-spelled : goal.returns-clause-spelled
returns-clause-spelled c = read_spelled
