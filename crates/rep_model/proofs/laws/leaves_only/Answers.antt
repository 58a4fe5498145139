use Rattle.rep_model.proofs.laws.leaves_only.Goals as goal
use Rattle.rep_model.proofs.Joins.{pending-leaves}

pub returns : goal.returns
returns c = pending-leaves
