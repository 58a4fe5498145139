use Rattle.std.proofs.Common.{◌≡◌, ◌-◌, []}
use Rattle.rep_read.specs.Reading.{many_at}
use Rattle.rep_digest.specs.Reading.{origin_at}
use Rattle.rep_digest.proofs.read.entry.read_each_origin.Given as goal

abbrev pub invariant-loop : goal.invariant-loop
invariant-loop l = many_at origin_at (l.count - l.counter) l.origins.items l.rest ≡ many_at origin_at l.count [] l.bytes
