use Rattle.gw_node.specs.Parts.{state_of}
use Rattle.gw_node.proofs.Leading.{event_on}
use Rattle.gw_answer.specs.declared.step.Step.TheVariants as steps
use Rattle.gw_node.proofs.node.Node.tick.Goals as goal

pub returns-clause-event : goal.returns-clause-event
returns-clause-event g c =
    rw c.one_share.ensures
    (event_on (state_of g.R.Replica.kept c.args.self.now) (state_of g.R.Replica.kept c.handle_tick.new.node) (steps.Tick c.args.now) c.handle_tick.result c.handle_tick.ensures)
