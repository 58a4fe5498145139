use Rattle.std.proofs.Common.{[], ◌∷◌, arith}
use Rattle.rep_ops.proofs.Splitting.{alone_small}
use Rattle.rep_ops.proofs.measure.Measure.of_one.Goals as goal

pub returns-clause-measure : goal.returns-clause-measure
returns-clause-measure c = c.with_op.ensures.measure [] c.of_none.ensures

pub returns-clause-small : goal.returns-clause-small
returns-clause-small c = alone_small c.of_none.result c.with_op.result c.args.op.now c.of_none.ensures (c.with_op.ensures.measure [] c.of_none.ensures) c.with_op.ensures.one c.with_op.ensures.two
