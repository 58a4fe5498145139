use Rattle.std.proofs.Common.{◌≡◌, drop}
use Rattle.sn_tick.specs.inner.Greatest.{greatest_from}
use Rattle.sn_tick.proofs.expiry.greatest_number.Given as goal

abbrev pub invariant-loop-put : goal.invariant-loop-put
invariant-loop-put l = greatest_from l.greatest (drop l.put-index l.pending) ≡ greatest_from 0 l.pending
