use Rattle.std.proofs.Common.{◌++◌, List, ap, ◌∙◌, sym, append-nil}
use Rattle.rep_op.specs.declared.op.Op.{Op}
use Rattle.gw_answer.specs.declared.step.Step.TheVariants as steps
use Rattle.gw_node.specs.Parts.{state_of}
use Rattle.gw_node.proofs.Unwritten.{nothing_done, went_for, puts_for}
use Rattle.gw_node.proofs.ahead.take_along.Goals as goal

pub returns-then-most-ops-clause-call : goal.returns-then-most-ops-clause-call
returns-then-most-ops-clause-call g c = nothing_done (state_of g.R.Replica.kept c.args.node.now)

pub returns-then-most-ops-clause-records : goal.returns-then-most-ops-clause-records
returns-then-most-ops-clause-records g c = sym (append-nil c.args.records.now)

pub returns-clause-call : goal.returns-clause-call
returns-clause-call g c =
    went_for (state_of g.R.Replica.kept c.args.node.now) (state_of g.R.Replica.kept c.take_ahead.new.node) (steps.Take c.args.delta.now) c.take_ahead.result c.unless_wanting.result c.unless_wanting.ensures c.take_ahead.ensures.call

pub returns-clause-records : goal.returns-clause-records
returns-clause-records g c =
    c.take_ahead.ensures.records ∙ ap (λ (ds : List (List Op)). c.args.records.now ++ ds) (puts_for (steps.Take c.args.delta.now) c.take_ahead.result c.unless_wanting.result c.unless_wanting.ensures)
