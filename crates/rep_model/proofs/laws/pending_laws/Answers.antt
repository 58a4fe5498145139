use Rattle.rep_model.proofs.laws.pending_laws.Goals as goal
use Rattle.rep_model.proofs.Pending.{pending-listed, pending-ascend, pending-stay}

pub returns : goal.returns
returns c = record {
  listed = pending-listed;
  ascending = pending-ascend;
  leaves = pending-stay;
}
