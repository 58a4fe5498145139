use Rattle.std.proofs.Common.{arith}
use Rattle.rep_ops.proofs.Sizes.{length_more}
use Rattle.rep_ops.proofs.size.is_within.Goals as goal

pub returns-then-size-gt-MAX_OCTETS : goal.returns-then-size-gt-MAX_OCTETS
returns-then-size-gt-MAX_OCTETS c =
    (λ t. absurd cc, λ within. absurd (let more = length_more c.args.version c.args.ops.now c.loop-op.op-index c.op-item.result c.loop-op-test.true c.op-item.is in omega arith))
