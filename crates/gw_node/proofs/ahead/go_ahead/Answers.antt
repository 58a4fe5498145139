use Rattle.std.proofs.Common.{◌++◌, List, sym, ap, ◌∙◌, subst, append-nil}
use Rattle.rep_op.specs.declared.op.Op.{Op}
use Rattle.gw_node.specs.Parts.{State, state_of, IsUnchanged}
use Rattle.gw_node.specs.inner.Rows.{CarriedAlong}
use Rattle.gw_node.proofs.Unwritten.{went_for, puts_for, writer_some, writer_along, writer_puts_if, nothing_done}
use Rattle.gw_node.proofs.ahead.go_ahead.Goals as goal

-- ---- it had nothing to write

pub returns-in-Told-clause-call : goal.returns-in-Told-clause-call
returns-in-Told-clause-call g c =
    went_for (state_of g.R.Replica.kept c.args.node.now) (state_of g.R.Replica.kept c.look.new.node) c.args.step.now c.in-Told.reply c.unless_wanting.result c.unless_wanting.ensures c.in-Told.ensures.found.0

pub returns-in-Told-clause-records : goal.returns-in-Told-clause-records
returns-in-Told-clause-records g c =
    sym (ap (λ (ds : List (List Op)). c.args.records.now ++ ds) (sym (puts_for c.args.step.now c.in-Told.reply c.unless_wanting.result c.unless_wanting.ensures) ∙ c.in-Told.ensures.found.1) ∙ append-nil c.args.records.now)

pub returns-in-Told-clause-can : goal.returns-in-Told-clause-can
returns-in-Told-clause-can g c = subst (λ r. g.R.Replica.can_go_back r c.args.aside.now) (sym c.look.ensures.replica) c.requires.can

pub returns-in-Told-clause-back : goal.returns-in-Told-clause-back
returns-in-Told-clause-back g c = ap (λ r. g.R.Replica.back r c.args.aside.now) c.look.ensures.replica

-- ---- its plan has operations

pub carry_along-requires-clause-some : goal.carry_along-requires-clause-some
carry_along-requires-clause-some g c = writer_some (state_of g.R.Replica.kept c.args.node.now) c.args.step.now c.in-Writes.plan c.in-Writes.excuse c.in-Writes.ensures.found.0

pub carry_along-requires-clause-can : goal.carry_along-requires-clause-can
carry_along-requires-clause-can g c = subst (λ r. g.R.Replica.can_go_back r c.args.aside.now) (sym c.look.ensures.replica) c.requires.can

pub returns-in-Writes-clause-call : goal.returns-in-Writes-clause-call
returns-in-Writes-clause-call g c =
    let new = state_of g.R.Replica.kept c.carry_along.new.node in
    writer_along (state_of g.R.Replica.kept c.args.node.now) new c.args.step.now c.in-Writes.plan c.in-Writes.excuse c.carry_along.result c.in-Writes.ensures.found.0
    (subst (λ (old : State g.D.Disk). CarriedAlong old c.in-Writes.plan c.carry_along.result new) c.in-Writes.ensures.found.1 c.carry_along.ensures.call)

pub returns-in-Writes-clause-records : goal.returns-in-Writes-clause-records
returns-in-Writes-clause-records g c =
    c.carry_along.ensures.records
    ∙ ap (λ (ds : List (List Op)). c.args.records.now ++ ds) (writer_puts_if (state_of g.R.Replica.kept c.args.node.now) c.args.step.now c.in-Writes.plan c.in-Writes.excuse c.carry_along.result c.in-Writes.ensures.found.0)

pub returns-in-Writes-clause-back : goal.returns-in-Writes-clause-back
returns-in-Writes-clause-back g c = c.carry_along.ensures.back ∙ ap (λ r. g.R.Replica.back r c.args.aside.now) c.look.ensures.replica

-- ---- it has no plan

pub returns-in-Alone-clause-call : goal.returns-in-Alone-clause-call
returns-in-Alone-clause-call g c =
    subst (λ (new : State g.D.Disk). IsUnchanged (state_of g.R.Replica.kept c.args.node.now) new) (sym c.in-Alone.ensures.found) (nothing_done (state_of g.R.Replica.kept c.args.node.now))

pub returns-in-Alone-clause-records : goal.returns-in-Alone-clause-records
returns-in-Alone-clause-records g c = sym (append-nil c.args.records.now)

pub returns-in-Alone-clause-can : goal.returns-in-Alone-clause-can
returns-in-Alone-clause-can g c = subst (λ r. g.R.Replica.can_go_back r c.args.aside.now) (sym c.look.ensures.replica) c.requires.can

pub returns-in-Alone-clause-back : goal.returns-in-Alone-clause-back
returns-in-Alone-clause-back g c = ap (λ r. g.R.Replica.back r c.args.aside.now) c.look.ensures.replica
