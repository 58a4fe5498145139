-- What is left leads where all leads.
use Rattle.std.proofs.Common.{◌≡◌, length, drop}
use Rattle.rep_model.specs.Views.{clients}
use Rattle.sn_local.specs.Seen.{seen_of}
use Rattle.sn_tick.specs.Due.{first_due}
use Rattle.sn_tick.proofs.due.first_due.Given as goal

abbrev pub invariant-loop-behind : goal.invariant-loop-behind
invariant-loop-behind g l =
    let S = g.R.Replica.kept l.replica in
    first_due l.gateway (seen_of S) l.dialogs.local l.now (drop l.place (clients S))
    ≡ first_due l.gateway (seen_of S) l.dialogs.local l.now (clients S)

abbrev pub decreases-loop-behind : goal.decreases-loop-behind
decreases-loop-behind g l = length (drop l.place (clients (g.R.Replica.kept l.replica)))
