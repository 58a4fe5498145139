use Rattle.rep_ops.proofs.Format.{one_again, one_spelled}
use Rattle.rep_ops.proofs.delta.one_older_reading.Goals as goal

pub returns-clause-again : goal.returns-clause-again
returns-clause-again c = one_again

pub returns-clause-spelled : goal.returns-clause-spelled
returns-clause-spelled c = one_spelled
