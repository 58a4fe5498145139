-- What is left asks where any client does.
use Rattle.std.proofs.Common.{◌≡◌, length, drop}
use Rattle.std.specs.List.{list_any}
use Rattle.rep_model.specs.Views.{clients}
use Rattle.sn_local.specs.Seen.{seen_of}
use Rattle.sn_tick.specs.Rest.{asks}
use Rattle.sn_tick.proofs.rest.none_asks.Given as goal

abbrev pub invariant-loop-behind : goal.invariant-loop-behind
invariant-loop-behind g l =
    let S = g.R.Replica.kept l.replica in
    list_any (asks l.gateway (seen_of S) l.dialogs.local l.now) (drop l.place (clients S))
    ≡ list_any (asks l.gateway (seen_of S) l.dialogs.local l.now) (clients S)

abbrev pub decreases-loop-behind : goal.decreases-loop-behind
decreases-loop-behind g l = length (drop l.place (clients (g.R.Replica.kept l.replica)))
