-- What was shown, and what is left up to the number that was asked for.
use Rattle.std.proofs.Common.{◌≡◌, ◌++◌, take, length, drop}
use Rattle.rep_model.specs.Views.{clients}
use Rattle.sn_local.specs.Seen.{seen_of}
use Rattle.gw_glance.specs.Glancing.{glimpses}
use Rattle.gw_glance.proofs.glancing.glance.Given as goal

abbrev pub invariant-loop-behind : goal.invariant-loop-behind
invariant-loop-behind g l =
    let S = g.R.Replica.kept l.replica in
    l.all.items ++ take l.room (glimpses l.gateway (seen_of S) l.dialogs.local l.above (drop l.place (clients S)))
    ≡ take l.most (glimpses l.gateway (seen_of S) l.dialogs.local l.above (clients S))

abbrev pub decreases-loop-behind : goal.decreases-loop-behind
decreases-loop-behind g l = length (drop l.place (clients (g.R.Replica.kept l.replica)))
