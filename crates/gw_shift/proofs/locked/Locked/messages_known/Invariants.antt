-- Those that were counted, and those that are left.
use Rattle.std.proofs.Common.{◌≡◌, ◌+◌, ◌++◌, length}
use Rattle.gw_node.specs.Parts.{state_of}
use Rattle.gw_shift.specs.inner.Glances.{all_known}
use Rattle.gw_shift.proofs.locked.Locked.messages_known.Given as goal

abbrev pub invariant-clients : goal.invariant-clients
invariant-clients g l =
    let S = (state_of g.R.Replica.kept l.self.node).kept in
    (l.all.items ++ all_known S l.origin l.left ≡ all_known S l.origin l.clients)
    × (length l.all.items + length l.left ≡ length l.clients)

abbrev pub decreases-clients : goal.decreases-clients
decreases-clients g l = length l.left
