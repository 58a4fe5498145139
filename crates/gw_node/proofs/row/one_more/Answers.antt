use Rattle.std.proofs.Common.{refl, ◌∙◌, append-nil}
use Rattle.gw_node.specs.Parts.{state_of}
use Rattle.gw_node.proofs.Unwritten.{nothing_done}
use Rattle.gw_node.proofs.row.one_more.Goals as goal

pub returns-then-most-size-clause-call : goal.returns-then-most-size-clause-call
returns-then-most-size-clause-call g c = (nothing_done (state_of g.R.Replica.kept c.args.node.now), refl, refl)

pub returns-in-Some-clause-call : goal.returns-in-Some-clause-call
returns-in-Some-clause-call g c = (c.in-Some.reply, c.in-Some.ensures.call.0, c.in-Some.ensures.call.1, c.push_reserved.ensures.items, c.in-Some.ensures.records)

pub returns-in-None-clause-call : goal.returns-in-None-clause-call
returns-in-None-clause-call g c = (c.in-None.ensures.call, refl, c.in-None.ensures.records ∙ append-nil c.args.unwritten.now.records)
