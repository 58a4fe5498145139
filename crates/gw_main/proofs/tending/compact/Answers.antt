use Rattle.std.specs.Arc.{arc_value}
use Rattle.std.proofs.Common.{Err, subst}
use Rattle.gw_node.specs.Calls.{CompactCall}
use Rattle.gw_node.specs.Parts.{state_of}
use Rattle.gw_answer.specs.Answers.{refusal_of_fault, said}
use Rattle.gw_node.proofs.Taken.{compact_carries_on}
use Rattle.gw_answer.specs.declared.fault.NodeFault.{NodeFault}
use Rattle.gw_main.proofs.Behind.{one_call, two_calls, failed_then_opened}
use Rattle.gw_main.proofs.tending.compact.Goals as goal

pub returns-in-Ok-open_anew-clause-ends : goal.returns-in-Ok-open_anew-clause-ends
returns-in-Ok-open_anew-clause-ends g c = (state_of g.R.Replica.kept c.compact.new.self, (arc_value c.in-Err-Disk.field-0-0, subst (λ (fault : NodeFault). CompactCall (state_of g.R.Replica.kept c.args.node.now) (Err (refusal_of_fault fault)) (state_of g.R.Replica.kept c.compact.new.self)) c.in-Err-Disk.field-0-is c.in-Err-Disk.ensures.call), c.in-Ok-open_anew.ensures.ok)

pub returns-in-Ok-open_anew-clause-taken : goal.returns-in-Ok-open_anew-clause-taken
returns-in-Ok-open_anew-clause-taken g c = λ honest.
    failed_then_opened (state_of g.R.Replica.kept c.args.node.now) (state_of g.R.Replica.kept c.compact.new.self) (state_of g.R.Replica.kept c.open_anew.new.node)
    honest c.requires (compact_carries_on (state_of g.R.Replica.kept c.args.node.now) (state_of g.R.Replica.kept c.compact.new.self) (Err (refusal_of_fault c.in-Err-Disk.field-0)) c.in-Err-Disk.ensures.call) c.in-Ok-open_anew.ensures.again

pub returns-in-Err-Disk-clause-ends : goal.returns-in-Err-Disk-clause-ends
returns-in-Err-Disk-clause-ends g c = (state_of g.R.Replica.kept c.compact.new.self, (arc_value c.in-Err-Disk.field-0-0, subst (λ (fault : NodeFault). CompactCall (state_of g.R.Replica.kept c.args.node.now) (Err (refusal_of_fault fault)) (state_of g.R.Replica.kept c.compact.new.self)) c.in-Err-Disk.field-0-is c.in-Err-Disk.ensures.call), c.in-Err.ensures.err)

pub returns-in-Err-Disk-clause-taken : goal.returns-in-Err-Disk-clause-taken
returns-in-Err-Disk-clause-taken g c = λ honest.
    two_calls (state_of g.R.Replica.kept c.args.node.now) (state_of g.R.Replica.kept c.compact.new.self) (state_of g.R.Replica.kept c.open_anew.new.node)
    (compact_carries_on (state_of g.R.Replica.kept c.args.node.now) (state_of g.R.Replica.kept c.compact.new.self) (Err (refusal_of_fault c.in-Err-Disk.field-0)) c.in-Err-Disk.ensures.call) c.in-Err.ensures.nothing

pub returns-in-Err-Memory-clause-taken : goal.returns-in-Err-Memory-clause-taken
returns-in-Err-Memory-clause-taken g c = λ honest.
    one_call (state_of g.R.Replica.kept c.args.node.now) (state_of g.R.Replica.kept c.args.node.now) (state_of g.R.Replica.kept c.compact.new.self) (compact_carries_on (state_of g.R.Replica.kept c.args.node.now) (state_of g.R.Replica.kept c.compact.new.self) (Err (refusal_of_fault c.in-Err-Memory.field-0)) c.in-Err-Memory.ensures.call)

pub returns-clause-taken : goal.returns-clause-taken
returns-clause-taken g c = λ honest.
    one_call (state_of g.R.Replica.kept c.args.node.now) (state_of g.R.Replica.kept c.args.node.now) (state_of g.R.Replica.kept c.compact.new.self) (compact_carries_on (state_of g.R.Replica.kept c.args.node.now) (state_of g.R.Replica.kept c.compact.new.self) (said c.compact.result) c.compact.ensures.call)
