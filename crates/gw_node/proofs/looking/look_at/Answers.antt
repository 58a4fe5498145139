use Rattle.std.proofs.Common.{refl, inl, inr}
use Rattle.gw_node.specs.Parts.{state_of}
use Rattle.gw_node.proofs.Unwritten.{nothing_done}
use Rattle.gw_node.proofs.looking.look_at.Goals as goal

pub returns-in-Ok-clause-found : goal.returns-in-Ok-clause-found
returns-in-Ok-clause-found g c = inl (c.in-Ok.plan, c.in-Ok.ensures.ok, c.left_of_frame.ensures.found)

pub returns-in-Err-clause-found : goal.returns-in-Err-clause-found
returns-in-Err-clause-found g c = inr (c.in-Err.refusal, refl, c.in-Err.ensures.err, nothing_done (state_of g.R.Replica.kept c.args.node.now))
