use Rattle.std.proofs.Common.{ℕ, not, List, ◌++◌, filter, Some, T, sym, ap, subst, ◌∙◌}
use Rattle.std.specs.FinMap.{is_sorted}
use Rattle.sn_session.specs.declared.change.SessionOp.{SessionOp}
use Rattle.rep_op.specs.declared.op.Stamp.{Stamp}
use Rattle.rep_op.specs.Orders.{operation_cmp}
use Rattle.rep_model.specs.Keep.{is_below}
use Rattle.rep_log.proofs.Sorting.{rest_is, stay_at, stay_gap, sorted_from}
use Rattle.rep_log.proofs.named_ops.from_stamp.Goals as goal

pub returns-in-Ok-clause-kept : goal.returns-in-Ok-clause-kept
returns-in-Ok-clause-kept c = ap (filter (λ (e : (Stamp × ℕ) × SessionOp). not (is_below e.0.0 (Some c.args.stamp)))) (rest_is c.args.ops.now c.in-Ok.at) ∙ stay_at c.args.stamp c.args.ops.now c.in-Ok.at c.in-Ok.ensures.place.1

pub returns-in-Ok-clause-ordered : goal.returns-in-Ok-clause-ordered
returns-in-Ok-clause-ordered c =
    λ more h.
    subst (λ (es : List ((Stamp × ℕ) × SessionOp)). T (is_sorted operation_cmp (es ++ more))) (sym (rest_is c.args.ops.now c.in-Ok.at)) (sorted_from operation_cmp c.in-Ok.at c.args.ops.now more h)

pub returns-in-Err-clause-kept : goal.returns-in-Err-clause-kept
returns-in-Err-clause-kept c = ap (filter (λ (e : (Stamp × ℕ) × SessionOp). not (is_below e.0.0 (Some c.args.stamp)))) (rest_is c.args.ops.now c.in-Err.at) ∙ stay_gap c.args.stamp c.args.ops.now c.in-Err.at c.in-Err.ensures.place.1

pub returns-in-Err-clause-ordered : goal.returns-in-Err-clause-ordered
returns-in-Err-clause-ordered c =
    λ more h.
    subst (λ (es : List ((Stamp × ℕ) × SessionOp)). T (is_sorted operation_cmp (es ++ more))) (sym (rest_is c.args.ops.now c.in-Err.at)) (sorted_from operation_cmp c.in-Err.at c.args.ops.now more h)
