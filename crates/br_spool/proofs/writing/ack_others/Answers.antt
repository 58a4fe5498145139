use Rattle.br_spool.proofs.Written.{next-acked, none-left}
use Rattle.br_spool.proofs.writing.ack_others.Goals as goal

pub loop-number-preserved : goal.loop-number-preserved
loop-number-preserved c =
    next-acked c.loop-number.number c.args.below c.args.items.now c.loop-number.ops.items c.ack_other.new.ops.items _ c.loop-number-test.true (c.in_ok-ack_other.ensures) c.loop-number.invariant

pub returns : goal.returns
returns c = none-left c.loop-number.number c.args.below c.args.items.now c.loop-number.ops.items _ c.loop-number-test.false c.loop-number.invariant
