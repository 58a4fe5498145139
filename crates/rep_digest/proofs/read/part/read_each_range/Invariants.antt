use Rattle.std.proofs.Common.{◌≡◌, ◌-◌, []}
use Rattle.rep_read.specs.Reading.{many_at, range_at}
use Rattle.rep_digest.proofs.read.part.read_each_range.Given as goal

abbrev pub invariant-loop : goal.invariant-loop
invariant-loop l = many_at range_at (l.count - l.counter) l.ranges.items l.rest ≡ many_at range_at l.count [] l.bytes
