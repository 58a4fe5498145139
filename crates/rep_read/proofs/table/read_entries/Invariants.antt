use Rattle.std.proofs.Common.{◌≡◌, ◌-◌, []}
use Rattle.rep_read.specs.Reading.{many_at, entry_at}
use Rattle.rep_read.proofs.table.read_entries.Given as goal

abbrev pub invariant-loop : goal.invariant-loop
invariant-loop l = many_at entry_at (l.count - l.counter) l.entries.items l.rest ≡ many_at entry_at l.count [] l.bytes
