use Rattle.std.proofs.Common.{sym, ap, ◌∙◌, arith, drop}
use Rattle.rep_op.specs.Orders.{operation_cmp}
use Rattle.rep_op.specs.Sets.{operations}
use Rattle.rep_model.specs.Views.{in_order}
use Rattle.rep_shared.proofs.Places.{drop_back}
use Rattle.rep_shared.proofs.replay.operations_in_order.Goals as goal

pub loop-i-preserved : goal.loop-i-preserved
loop-i-preserved c =
    let e = drop_back c.args.ops.now c.loop-i.i c.index-ops-i.result (omega arith) (omega arith) c.index-ops-i.is in
    (omega arith, c.in_ok-note_operation.ensures (drop c.loop-i.i c.args.ops.now) c.loop-i.invariant.1 ∙ ap (λ S. in_order operation_cmp (operations c.args.client.now S)) (sym e))
