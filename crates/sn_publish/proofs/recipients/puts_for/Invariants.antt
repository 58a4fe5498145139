-- What is made and what is left to make are the whole.
use Rattle.std.proofs.Common.{◌≡◌, ◌++◌, length, drop}
use Rattle.rep_model.specs.Views.{clients}
use Rattle.sn_local.specs.Seen.{seen_of}
use Rattle.sn_publish.specs.Recipients.{puts_among}
use Rattle.sn_publish.proofs.recipients.puts_for.Given as goal

abbrev pub invariant-loop-behind : goal.invariant-loop-behind
invariant-loop-behind g l =
    let S = g.R.Replica.kept l.replica in
    l.puts.items ++ puts_among (seen_of S) (drop l.place (clients S)) l.topic l.qos l.body
    ≡ puts_among (seen_of S) (clients S) l.topic l.qos l.body

abbrev pub decreases-loop-behind : goal.decreases-loop-behind
decreases-loop-behind g l = length (drop l.place (clients (g.R.Replica.kept l.replica)))
