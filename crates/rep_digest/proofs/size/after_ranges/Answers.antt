use Rattle.std.proofs.Common.{arith}
use Rattle.rep_digest.proofs.Format.{length_each_range}
use Rattle.rep_digest.proofs.size.after_ranges.Goals as goal

pub returns-then-ranges-room : goal.returns-then-ranges-room
returns-then-ranges-room c = let len = length_each_range c.args.ranges.now in omega (arith, c.in_ok-room.ensures, c.if-ranges-room.true)

pub returns : goal.returns
returns c = let len = length_each_range c.args.ranges.now in omega (arith, c.in_ok-room.ensures, c.if-ranges-room.false)
