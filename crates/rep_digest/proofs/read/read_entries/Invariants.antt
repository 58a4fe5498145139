use Rattle.std.proofs.Common.{◌≡◌, ◌-◌, []}
use Rattle.rep_ops.specs.Reading.{listed_at}
use Rattle.rep_digest.specs.Reading.{client_entry_at, entry_may_follow}
use Rattle.rep_digest.proofs.read.read_entries.Given as goal

abbrev pub invariant-loop : goal.invariant-loop
invariant-loop l = listed_at client_entry_at entry_may_follow (l.count - l.counter) l.entries.items l.rest ≡ listed_at client_entry_at entry_may_follow l.count [] l.bytes
