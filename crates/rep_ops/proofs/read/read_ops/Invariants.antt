use Rattle.std.proofs.Common.{◌≡◌, ◌-◌, []}
use Rattle.rep_read.specs.Reading.{op_at}
use Rattle.rep_ops.specs.Reading.{listed_at, may_follow}
use Rattle.rep_ops.proofs.read.read_ops.Given as goal

abbrev pub invariant-loop : goal.invariant-loop
invariant-loop l = listed_at (op_at l.version) may_follow (l.count - l.counter) l.ops.items l.rest ≡ listed_at (op_at l.version) may_follow l.count [] l.bytes
