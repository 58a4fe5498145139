use Rattle.std.proofs.Common.{arith}
use Rattle.rep_ops.proofs.Sizes.{length_ids}
use Rattle.rep_ops.proofs.session_size.received_size.Goals as goal

pub returns-clause-size : goal.returns-clause-size
returns-clause-size c = let two_each = length_ids c.args.received.now in omega arith
