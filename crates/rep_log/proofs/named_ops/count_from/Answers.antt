use Rattle.std.proofs.Common.{sym}
use Rattle.rep_log.proofs.Sorting.{wait_at, wait_gap}
use Rattle.rep_log.proofs.named_ops.count_from.Goals as goal

pub returns-in-Ok : goal.returns-in-Ok
returns-in-Ok c = sym (wait_at c.args.stamp c.args.counter c.args.ops.now c.in-Ok.at c.in-Ok.ensures.place.1)

pub returns-in-Err : goal.returns-in-Err
returns-in-Err c = sym (wait_gap c.args.stamp c.args.counter c.args.ops.now c.in-Err.at c.in-Err.ensures.place.1)
