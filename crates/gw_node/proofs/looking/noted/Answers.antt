use Rattle.gw_node.specs.Parts.{state_of}
use Rattle.gw_node.proofs.Unwritten.{quiet_noted}
use Rattle.gw_node.proofs.looking.noted.Goals as goal

pub returns-in-Ok-clause-noted : goal.returns-in-Ok-clause-noted
returns-in-Ok-clause-noted g c =
    quiet_noted (state_of g.R.Replica.kept c.args.node.now) (state_of g.R.Replica.kept c.apply_local.new.node) c.args.plan c.in-Ok.answer c.requires c.in-Ok.ensures.ok
