use Rattle.gw_node.specs.Parts.{state_of}
use Rattle.gw_node.proofs.Leading.{event_on}
use Rattle.gw_answer.specs.declared.step.Step.TheVariants as steps
use Rattle.gw_node.proofs.node.Node.frame.Goals as goal

pub returns-clause-event : goal.returns-clause-event
returns-clause-event g c =
    rw c.one_share.ensures
    (event_on (state_of g.R.Replica.kept c.args.self.now) (state_of g.R.Replica.kept c.handle_frame.new.node) (steps.Frame c.args.from c.args.bytes.now c.args.now) c.handle_frame.result c.handle_frame.ensures)
