-- The first ones of the calls are done; fewer are left with each row.
use Rattle.std.proofs.Common.{◌-◌, ◌≤◌, length, map}
use Rattle.std.specs.Arc.{arc_value}
use Rattle.std.specs.Prelude.{vec_len}
use Rattle.gw_answer.specs.Answers.{said}
use Rattle.gw_event.specs.Gateways.{Gateway}
use Rattle.gw_node.specs.Parts.{state_of}
use Rattle.gw_world.specs.Keeping.{IsShown}
use Rattle.gw_world.specs.inner.Events.{AgreeAlong, RowLeads}
use Rattle.gw_world.proofs.rows.row_to.Given as goal

abbrev pub invariant-rows : goal.invariant-rows
invariant-rows g l =
    (vec_len l.answers ≤ length l.steps)
    × ((gateway : Gateway) → IsShown gateway (state_of g.R.Replica.kept l.fn.node) → AgreeAlong gateway (map arc_value l.steps)
    → RowLeads gateway (map arc_value l.steps) (map said l.answers.items) (state_of g.R.Replica.kept l.node))

abbrev pub decreases-rows : goal.decreases-rows
decreases-rows g l = length l.steps - vec_len l.answers
