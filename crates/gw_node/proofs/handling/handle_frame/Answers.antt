use Rattle.std.proofs.Common.{rules}
use Rattle.gw_node.specs.Parts.{state_of}
use Rattle.gw_node.proofs.Calling.{frame_answered}
use Rattle.gw_node.proofs.handling.handle_frame.Goals as goal

pub returns-in-Ok : goal.returns-in-Ok
returns-in-Ok g c =
    frame_answered (state_of g.R.Replica.kept c.args.node.now) (state_of g.R.Replica.kept c.answer_frame.new.node) c.args.from c.args.bytes.now c.in-Ok.frame c.args.now c.answer_frame.result (search rules)
    c.in-Ok.ensures.ok.1 c.in-Ok.ensures.ok.2 c.answer_frame.ensures
