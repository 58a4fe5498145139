use Rattle.std.proofs.Common.{◌≡◌, drop}
use Rattle.sn_exchange.specs.Exchanges.{put_named}
use Rattle.sn_exchange.proofs.exchange.put_named.Given as goal

abbrev pub invariant-loop-put : goal.invariant-loop-put
invariant-loop-put l = put_named l.name (drop l.put-index l.pending) ≡ put_named l.name l.pending
