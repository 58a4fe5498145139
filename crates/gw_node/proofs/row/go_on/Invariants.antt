-- The first of the calls are done; what lies aside is put back as before.
use Rattle.std.proofs.Common.{◌≡◌, ◌+◌, ◌-◌, ◌≤◌, length, map, take, vec_len, vec_capacity}
use Rattle.std.specs.Arc.{arc_value}
use Rattle.gw_node.specs.Parts.{state_of}
use Rattle.gw_node.proofs.Rows.{GoneOn}
use Rattle.gw_node.proofs.row.go_on.Given as goal

abbrev pub invariant-loop-index : goal.invariant-loop-index
invariant-loop-index g l =
    GoneOn (state_of g.R.Replica.kept l.fn.node) (take l.index (map arc_value l.rest)) l.fn.replies.items l.fn.unwritten.records l.replies.items l.unwritten.records (state_of g.R.Replica.kept l.node)
    × g.R.Replica.can_go_back l.node.replica l.unwritten.aside
    × (g.R.Replica.back l.node.replica l.unwritten.aside ≡ g.R.Replica.back l.fn.node.replica l.fn.unwritten.aside)
    × (vec_len l.replies + (length l.rest - l.index) ≤ vec_capacity l.replies)
