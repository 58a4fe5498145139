use Rattle.std.proofs.Common.{ℕ, sym}
use Rattle.rep_op.specs.declared.op.Stamp.{Stamp}
use Rattle.rep_op.specs.Orders.{operation_cmp}
use Rattle.rep_model.proofs.Readers.{operation_total}
use Rattle.rep_log.proofs.Sorting.{found_at, found_gap}
use Rattle.rep_log.proofs.named_ops.find_op.Goals as goal

pub returns-in-Ok : goal.returns-in-Ok
returns-in-Ok c =
    let q : Stamp × ℕ = (c.args.stamp, c.args.counter) in
    sym (found_at operation_cmp operation_total q c.args.ops.now c.in-Ok.at c.index-ops-at.result c.in-Ok.ensures.place.1)

pub returns-in-Err : goal.returns-in-Err
returns-in-Err c =
    let q : Stamp × ℕ = (c.args.stamp, c.args.counter) in
    sym (found_gap operation_cmp operation_total q c.args.ops.now c.in-Err.field-0 c.in-Err.ensures.place.1)
