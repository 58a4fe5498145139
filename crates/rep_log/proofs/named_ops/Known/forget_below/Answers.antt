use Rattle.std.proofs.Common.{ℕ, List, T, Some, not, filter, rules, sym, ap, subst, ◌∙◌}
use Rattle.std.specs.FinMap.{is_sorted}
use Rattle.std.specs.FinMap.Entries.{is_sorted-where_key}
use Rattle.std.proofs.lemmas.Fn.{filter_same}
use Rattle.sn_session.specs.declared.change.SessionOp.{SessionOp}
use Rattle.rep_op.specs.declared.op.Stamp.{Stamp}
use Rattle.rep_op.specs.Orders.{operation_cmp}
use Rattle.rep_model.specs.Keep.{is_below}
use Rattle.rep_log.proofs.named_ops.Known.forget_below.Goals as goal

pub invariant_of-self : goal.invariant_of-self
invariant_of-self c =
    let kept = filter_same _ (λ (e : (Stamp × ℕ) × SessionOp). not (is_below e.0.0 (Some c.args.stamp))) _ (λ op kept after called. search rules) _ _ c.retain.ensures.filtered in
    subst (λ (es : List ((Stamp × ℕ) × SessionOp)). T (is_sorted operation_cmp es)) (sym kept) (is_sorted-where_key operation_cmp (λ (n : Stamp × ℕ). not (is_below n.0 (Some c.args.stamp))) c.self.inside.ops.items c.self.invariant)

pub returns : goal.returns
returns c =
    filter_same _ (λ (e : (Stamp × ℕ) × SessionOp). not (is_below e.0.0 (Some c.args.stamp))) _ (λ op kept after called. search rules) _ _ c.retain.ensures.filtered
    ∙ ap (filter (λ (e : (Stamp × ℕ) × SessionOp). not (is_below e.0.0 (Some c.args.stamp)))) c.self.view_is
