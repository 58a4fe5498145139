use Rattle.gw_node.specs.Parts.{state_of}
use Rattle.gw_node.proofs.Leading.{event_on}
use Rattle.gw_answer.specs.declared.step.Step.TheVariants as steps
use Rattle.gw_node.proofs.node.Node.compact.Goals as goal

pub returns-clause-event : goal.returns-clause-event
returns-clause-event g c =
    rw c.one_share.ensures
    (event_on (state_of g.R.Replica.kept c.args.self.now) (state_of g.R.Replica.kept c.handle_compact.new.node) steps.Compact c.handle_compact.result c.handle_compact.ensures)
