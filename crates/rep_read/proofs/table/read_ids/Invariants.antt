use Rattle.std.proofs.Common.{◌≡◌, ◌-◌, []}
use Rattle.std.specs.Int.{w16}
use Rattle.rep_read.specs.Reading.{many_at, number_at}
use Rattle.rep_read.proofs.table.read_ids.Given as goal

abbrev pub invariant-loop : goal.invariant-loop
invariant-loop l = many_at (number_at w16) (l.count - l.counter) l.entries.items l.rest ≡ many_at (number_at w16) l.count [] l.bytes
