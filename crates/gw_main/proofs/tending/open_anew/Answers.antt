use Rattle.std.specs.Arc.{arc_value}
use Rattle.std.proofs.Common.{Ok, Err}
use Rattle.gw_node.specs.Parts.{state_of}
use Rattle.gw_answer.specs.Answers.{refusal_of_fault}
use Rattle.gw_node.proofs.Taken.{reopen_carries_on}
use Rattle.gw_main.proofs.tending.open_anew.Goals as goal

pub returns-in-Ok-clause-again : goal.returns-in-Ok-clause-again
returns-in-Ok-clause-again g c =
    reopen_carries_on (state_of g.R.Replica.kept c.args.node.now) (state_of g.R.Replica.kept c.reopen.new.self) (Ok (arc_value c.in-Ok.field-0)) c.in-Ok.ensures.call

pub returns-clause-nothing : goal.returns-clause-nothing
returns-clause-nothing g c =
    reopen_carries_on (state_of g.R.Replica.kept c.args.node.now) (state_of g.R.Replica.kept c.reopen.new.self) (Err (refusal_of_fault c.in-Err.fault)) c.in-Err.ensures.call
