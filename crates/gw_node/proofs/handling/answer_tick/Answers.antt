use Rattle.gw_node.specs.Parts.{state_of}
use Rattle.gw_node.proofs.Calling.{tick_answered}
use Rattle.gw_node.proofs.handling.answer_tick.Goals as goal

pub returns-in-Ok : goal.returns-in-Ok
returns-in-Ok g c =
    tick_answered (state_of g.R.Replica.kept c.args.node.now) (state_of g.R.Replica.kept c.carry_for_tick.new.node) c.args.now c.in-Ok.plan c.carry_for_tick.result c.requires
    c.in-Ok.ensures.ok c.carry_for_tick.ensures
