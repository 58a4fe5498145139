use Rattle.std.proofs.Common.{map, subst, rules}
use Rattle.std.specs.Arc.{arc_value}
use Rattle.gw_node.specs.Parts.{State, state_of}
use Rattle.gw_node.specs.inner.Rows.{RowCall}
use Rattle.gw_node.specs.Calls.{StepCall}
use Rattle.gw_node.proofs.Unwritten.{told_alone}
use Rattle.gw_node.proofs.Finishing.{by_itself}
use Rattle.gw_node.proofs.row.play.Goals as goal

-- there is one call alone, or the node is halted
pub returns-then-is_empty : goal.returns-then-is_empty
returns-then-is_empty g c =
    by_itself (state_of g.R.Replica.kept c.args.node.now) (state_of g.R.Replica.kept c.handle_step.new.node) c.args.first.now (map arc_value c.args.rest.now) c.alone.result.items c.handle_step.result c.alone.ensures c.handle_step.ensures

-- it has nothing to write
pub returns-in-Told : goal.returns-in-Told
returns-in-Told g c =
    let old = state_of g.R.Replica.kept c.args.node.now in
    let new = state_of g.R.Replica.kept c.look.new.node in
    by_itself old new c.args.first.now (map arc_value c.args.rest.now) c.alone-in-Told.result.items c.in-Told.reply c.alone-in-Told.ensures
    (told_alone old new c.args.first.now c.in-Told.reply (search rules) c.in-Told.ensures.found.0 c.in-Told.ensures.found.1)

-- its plan has operations
pub own_row-requires-clause-writer : goal.own_row-requires-clause-writer
own_row-requires-clause-writer g c = rw c.in-Writes.ensures.found.1 c.in-Writes.ensures.found.0

pub returns-in-Writes : goal.returns-in-Writes
returns-in-Writes g c =
    subst (λ (old : State g.D.Disk). RowCall old c.args.first.now (map arc_value c.args.rest.now) c.own_row.result.items (state_of g.R.Replica.kept c.own_row.new.node)) c.in-Writes.ensures.found.1 c.own_row.ensures

-- it has no plan
pub returns-in-Alone : goal.returns-in-Alone
returns-in-Alone g c =
    let old = state_of g.R.Replica.kept c.args.node.now in
    let new = state_of g.R.Replica.kept c.handle_step-in-Alone.new.node in
    by_itself old new c.args.first.now (map arc_value c.args.rest.now) c.alone-in-Alone.result.items c.handle_step-in-Alone.result c.alone-in-Alone.ensures
    (subst (λ (s : State g.D.Disk). StepCall s c.args.first.now c.handle_step-in-Alone.result new) c.in-Alone.ensures.found c.handle_step-in-Alone.ensures)
