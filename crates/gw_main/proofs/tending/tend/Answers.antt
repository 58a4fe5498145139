use Rattle.std.proofs.Common.{sym, subst, inl, inr}
use Rattle.gw_node.specs.Parts.{state_of}
use Rattle.gw_main.specs.Tending.{TendingEndsAs}
use Rattle.gw_main.specs.declared.tending.Tended.{Tended}
use Rattle.gw_main.proofs.Behind.{one_call, opened_then}
use Rattle.gw_main.proofs.tending.tend.Goals as goal

pub returns-in_err-open_anew-clause-taken : goal.returns-in_err-open_anew-clause-taken
returns-in_err-open_anew-clause-taken g c = λ honest.
    one_call (state_of g.R.Replica.kept c.args.node.now) (state_of g.R.Replica.kept c.args.node.now) (state_of g.R.Replica.kept c.open_anew.new.node) c.in_err-open_anew.ensures.nothing

pub returns-in-Ok-Kept-clause-tended : goal.returns-in-Ok-Kept-clause-tended
returns-in-Ok-Kept-clause-tended g c = inl (sym c.if-not-is_halted.ensures, (state_of g.R.Replica.kept c.open_anew.new.node, c.in_ok-open_anew.ensures.ok, subst (λ (tended : Tended). TendingEndsAs (state_of g.R.Replica.kept c.open_anew.new.node) tended (state_of g.R.Replica.kept c.compact-2.new.node)) c.in-Ok-Kept.field-0-is c.in-Ok-Kept.ensures.ends))

pub returns-in-Ok-Starved-clause-tended : goal.returns-in-Ok-Starved-clause-tended
returns-in-Ok-Starved-clause-tended g c = inr (sym c.if-not-is_halted.ensures, (state_of g.R.Replica.kept c.open_anew.new.node, c.in_ok-open_anew.ensures.ok, subst (λ (tended : Tended). TendingEndsAs (state_of g.R.Replica.kept c.open_anew.new.node) tended (state_of g.R.Replica.kept c.compact-2.new.node)) c.in-Ok-Starved.field-0-is c.in-Ok-Starved.ensures.ends))

pub returns-in-Ok-Starved-clause-taken : goal.returns-in-Ok-Starved-clause-taken
returns-in-Ok-Starved-clause-taken g c = λ honest.
    opened_then (state_of g.R.Replica.kept c.args.node.now) (state_of g.R.Replica.kept c.open_anew.new.node) (state_of g.R.Replica.kept c.compact-2.new.node)
    honest c.in_ok-open_anew.ensures.again (c.in-Ok-Starved.ensures.taken honest)

pub returns-in-Ok-Kept-clause-taken : goal.returns-in-Ok-Kept-clause-taken
returns-in-Ok-Kept-clause-taken g c = λ honest.
    opened_then (state_of g.R.Replica.kept c.args.node.now) (state_of g.R.Replica.kept c.open_anew.new.node) (state_of g.R.Replica.kept c.compact-2.new.node)
    honest c.in_ok-open_anew.ensures.again (c.in-Ok-Kept.ensures.taken honest)

pub returns-in-Ok-Unwritten-clause-tended : goal.returns-in-Ok-Unwritten-clause-tended
returns-in-Ok-Unwritten-clause-tended g c = inr (sym c.if-not-is_halted.ensures, (state_of g.R.Replica.kept c.open_anew.new.node, c.in_ok-open_anew.ensures.ok, subst (λ (tended : Tended). TendingEndsAs (state_of g.R.Replica.kept c.open_anew.new.node) tended (state_of g.R.Replica.kept c.compact-2.new.node)) c.in-Ok-Unwritten.field-0-is c.in-Ok-Unwritten.ensures.ends))

pub returns-in-Ok-Unwritten-clause-taken : goal.returns-in-Ok-Unwritten-clause-taken
returns-in-Ok-Unwritten-clause-taken g c = λ honest.
    opened_then (state_of g.R.Replica.kept c.args.node.now) (state_of g.R.Replica.kept c.open_anew.new.node) (state_of g.R.Replica.kept c.compact-2.new.node)
    honest c.in_ok-open_anew.ensures.again (c.in-Ok-Unwritten.ensures.taken honest)

pub returns-in-Err-clause-tended : goal.returns-in-Err-clause-tended
returns-in-Err-clause-tended g c = inr (sym c.if-not-is_halted.ensures, inr (state_of g.R.Replica.kept c.open_anew.new.node, c.in_ok-open_anew.ensures.ok, c.in-Err.ensures.ends))

pub returns-in-Err-clause-taken : goal.returns-in-Err-clause-taken
returns-in-Err-clause-taken g c = λ honest.
    opened_then (state_of g.R.Replica.kept c.args.node.now) (state_of g.R.Replica.kept c.open_anew.new.node) (state_of g.R.Replica.kept c.compact-2.new.node)
    honest c.in_ok-open_anew.ensures.again (c.in-Err.ensures.taken honest)
