use Rattle.gw_node.specs.Parts.{state_of}
use Rattle.gw_node.proofs.Leading.{event_on}
use Rattle.gw_node.proofs.node.Node.step.Goals as goal

pub returns-clause-event : goal.returns-clause-event
returns-clause-event g c =
    rw c.three_shares.ensures.first
    (event_on (state_of g.R.Replica.kept c.args.self.now) (state_of g.R.Replica.kept c.handle_step.new.node) c.args.step.now c.handle_step.result c.handle_step.ensures)
