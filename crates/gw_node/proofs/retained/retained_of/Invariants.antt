-- What is told and what is left to tell are the whole.
use Rattle.std.proofs.Common.{◌≡◌, ◌++◌, length, drop}
use Rattle.rep_model.specs.Topics.{all_retained}
use Rattle.gw_node.proofs.retained.retained_of.Given as goal

abbrev pub invariant-loop-behind : goal.invariant-loop-behind
invariant-loop-behind g l =
    let all = all_retained (g.R.Replica.kept l.replica) in
    l.all.items ++ drop l.place all ≡ all

abbrev pub decreases-loop-behind : goal.decreases-loop-behind
decreases-loop-behind g l = length (drop l.place (all_retained (g.R.Replica.kept l.replica)))
