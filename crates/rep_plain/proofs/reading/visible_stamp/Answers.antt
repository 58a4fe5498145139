use Rattle.std.proofs.Common.{sym, ap, ◌∙◌, arith, drop}
use Rattle.rep_shared.proofs.Places.{drop_back}
use Rattle.rep_model.specs.Views.{visible}
use Rattle.rep_plain.proofs.reading.visible_stamp.Goals as goal

pub loop-i-preserved : goal.loop-i-preserved
loop-i-preserved c =
    let e = drop_back c.args.ops.now c.loop-i.i c.index-ops-i.result (omega arith) (omega arith) c.index-ops-i.is in
    (omega arith, c.greater_stamp-best.ensures (drop c.loop-i.i c.args.ops.now) c.loop-i.invariant.1 ∙ ap (visible c.args.client.now) (sym e))
