use Rattle.std.proofs.Common.{◌≡◌, drop}
use Rattle.sn_tick.specs.Expiry.{expiries_acked}
use Rattle.sn_tick.proofs.expiry.ack_all_expired.Given as goal

abbrev pub invariant-loop-put : goal.invariant-loop-put
invariant-loop-put l = expiries_acked l.now l.name (drop l.put-index l.pending) l.draft ≡ expiries_acked l.now l.name l.pending l.fn.draft
