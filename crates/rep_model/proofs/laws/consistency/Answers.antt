use Rattle.rep_model.proofs.laws.consistency.Goals as goal
use Rattle.rep_model.proofs.Agreeing.{consistent-together, consistent-agrees}

pub returns : goal.returns
returns c = record { together = consistent-together; agrees = consistent-agrees }
