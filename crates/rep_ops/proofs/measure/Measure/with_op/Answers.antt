use Rattle.std.proofs.Common.{ap, ◌+◌}
use Rattle.rep_ops.proofs.Splitting.{more_measure}
use Rattle.rep_ops.proofs.measure.Measure.with_op.Goals as goal

pub returns-clause-measure : goal.returns-clause-measure
returns-clause-measure c = λ ops h.
    more_measure c.args.self _ ops c.args.op.now h
    (ap (λ n. c.args.self.one + n) c.op_size-first.ensures.size)
    (ap (λ n. c.args.self.two + n) c.size_in_two-second.ensures.size)
    c.is_two_with-is_two.ensures
