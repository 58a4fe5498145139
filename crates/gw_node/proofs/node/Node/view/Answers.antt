use Rattle.gw_node.specs.Parts.{state_of}
use Rattle.gw_answer.specs.declared.step.Step.TheVariants as steps
use Rattle.gw_node.proofs.Leading.{event_on}
use Rattle.gw_node.proofs.node.Node.view.Goals as goal

pub returns-clause-event : goal.returns-clause-event
returns-clause-event g c =
    rw c.one_share.ensures
    (event_on (state_of g.R.Replica.kept c.args.self.now) (state_of g.R.Replica.kept c.args.self.now) (steps.View c.args.client.now) c.handle_view.result c.handle_view.ensures)
