use Rattle.std.proofs.Common.{◌≡◌, ◌-◌, []}
use Rattle.rep_read.specs.Reading.{many_at, subscription_at}
use Rattle.rep_read.proofs.table.read_each_subscription.Given as goal

abbrev pub invariant-loop : goal.invariant-loop
invariant-loop l = many_at subscription_at (l.count - l.counter) l.entries.items l.rest ≡ many_at subscription_at l.count [] l.bytes
