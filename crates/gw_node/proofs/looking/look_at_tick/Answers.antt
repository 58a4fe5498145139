use Rattle.gw_node.specs.Parts.{state_of}
use Rattle.gw_node.proofs.Unwritten.{tick_looked, tick_unplanned, nothing_done}
use Rattle.gw_node.proofs.looking.look_at_tick.Goals as goal

pub returns-in-Ok-clause-found : goal.returns-in-Ok-clause-found
returns-in-Ok-clause-found g c =
    tick_looked (state_of g.R.Replica.kept c.args.node.now) (state_of g.R.Replica.kept c.left_of_tick.new.node) c.args.now c.in-Ok.plan c.left_of_tick.result
    c.in-Ok.ensures.ok c.left_of_tick.ensures.found

pub returns-in-Err-clause-found : goal.returns-in-Err-clause-found
returns-in-Err-clause-found g c =
    let old = state_of g.R.Replica.kept c.args.node.now in
    tick_unplanned old old c.args.now c.in-Err.refusal c.in-Err.ensures.err (nothing_done old)
