-- What is made and what is left to make are the whole.
use Rattle.std.proofs.Common.{◌≡◌, ◌++◌, map, length, drop}
use Rattle.rep_model.specs.Topics.{all_retained}
use Rattle.rep_digest.specs.inner.Steps.{entry_for}
use Rattle.rep_digest.proofs.topics.topics_of.Given as goal

abbrev pub invariant-loop-behind : goal.invariant-loop-behind
invariant-loop-behind g l =
    let all = all_retained (g.R.Replica.kept l.replica) in
    l.entries.items ++ map entry_for (drop l.place all) ≡ map entry_for all

abbrev pub decreases-loop-behind : goal.decreases-loop-behind
decreases-loop-behind g l = length (drop l.place (all_retained (g.R.Replica.kept l.replica)))
