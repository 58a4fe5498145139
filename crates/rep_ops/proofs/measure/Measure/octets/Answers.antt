use Rattle.rep_ops.proofs.Splitting.{measured_one, measured_two}
use Rattle.rep_ops.proofs.measure.Measure.octets.Goals as goal

pub returns-then-self : goal.returns-then-self
returns-then-self c = λ ops h. measured_two c.args.self ops h c.if-self.true

pub returns-else-self : goal.returns-else-self
returns-else-self c = λ ops h. measured_one c.args.self ops h c.if-self.false
