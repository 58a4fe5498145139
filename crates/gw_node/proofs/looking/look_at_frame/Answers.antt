use Rattle.gw_node.specs.Parts.{state_of}
use Rattle.gw_node.proofs.Unwritten.{frame_looked, no_frame, nothing_done}
use Rattle.gw_node.proofs.looking.look_at_frame.Goals as goal

pub returns-in-Ok-clause-found : goal.returns-in-Ok-clause-found
returns-in-Ok-clause-found g c =
    frame_looked (state_of g.R.Replica.kept c.args.node.now) (state_of g.R.Replica.kept c.look_at.new.node) c.args.from c.args.bytes.now c.in-Ok.frame c.args.now c.look_at.result
    c.in-Ok.ensures.ok.1 c.in-Ok.ensures.ok.2 c.look_at.ensures.found

pub returns-in-Err-clause-found : goal.returns-in-Err-clause-found
returns-in-Err-clause-found g c =
    let old = state_of g.R.Replica.kept c.args.node.now in
    no_frame old old c.args.from c.args.bytes.now c.args.now c.in-Err.refusal c.in-Err.ensures.err (nothing_done old)
