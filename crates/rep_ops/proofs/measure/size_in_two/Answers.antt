-- But for a message both versions spell the same.
use Rattle.std.proofs.Common.{refl, ◌∙◌}
use Rattle.rep_ops.proofs.Sizes.{as_long}
use Rattle.rep_ops.proofs.measure.size_in_two.Goals as goal

pub returns-in-Session-clause-size : goal.returns-in-Session-clause-size
returns-in-Session-clause-size c = c.requires.size ∙ as_long c.args.op.now _ c.in-Session.is refl

pub returns-in-Ack-clause-size : goal.returns-in-Ack-clause-size
returns-in-Ack-clause-size c = c.requires.size ∙ as_long c.args.op.now _ c.in-Ack.is refl

pub returns-in-Retain-clause-size : goal.returns-in-Retain-clause-size
returns-in-Retain-clause-size c = c.requires.size ∙ as_long c.args.op.now _ c.in-Retain.is refl
