use Rattle.std.proofs.Common.{◌++◌, List, ap, ◌∙◌, sym, append-nil}
use Rattle.rep_op.specs.declared.op.Op.{Op}
use Rattle.gw_node.specs.Parts.{state_of}
use Rattle.gw_node.proofs.Unwritten.{nothing_done, carried_for, made_for}
use Rattle.gw_node.proofs.ahead.carry_along.Goals as goal

pub returns-then-most-len-clause-call : goal.returns-then-most-len-clause-call
returns-then-most-len-clause-call g c = nothing_done (state_of g.R.Replica.kept c.args.node.now)

pub returns-then-most-len-clause-records : goal.returns-then-most-len-clause-records
returns-then-most-len-clause-records g c = sym (append-nil c.args.records.now)

pub returns-clause-call : goal.returns-clause-call
returns-clause-call g c =
    carried_for (state_of g.R.Replica.kept c.args.node.now) (state_of g.R.Replica.kept c.carry_ahead.new.node) c.args.plan c.carry_ahead.result c.unless_wanting.result c.unless_wanting.ensures c.carry_ahead.ensures.call

pub returns-clause-records : goal.returns-clause-records
returns-clause-records g c =
    c.carry_ahead.ensures.records ∙ ap (λ (ds : List (List Op)). c.args.records.now ++ ds) (made_for c.carry_ahead.result c.unless_wanting.result c.unless_wanting.ensures)
