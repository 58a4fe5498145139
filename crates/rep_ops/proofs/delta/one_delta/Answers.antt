use Rattle.rep_ops.proofs.Canonical.{one_delta}
use Rattle.rep_ops.proofs.delta.one_delta.Goals as goal

pub returns : goal.returns
returns c = one_delta
