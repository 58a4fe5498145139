use Rattle.std.proofs.Common.{◌++◌, ℕ, Bool, List, T, Some, not, filter, cond, [], sym, ap, subst, ◌∙◌}
use Rattle.std.specs.FinMap.{is_sorted}
use Rattle.std.proofs.lemmas.List.Elements.{filter-append}
use Rattle.sn_session.specs.declared.change.SessionOp.{SessionOp}
use Rattle.rep_op.specs.declared.op.Stamp.{Stamp}
use Rattle.rep_op.specs.Orders.{operation_cmp}
use Rattle.rep_model.specs.Keep.{is_below}
use Rattle.rep_log.specs.Logs.{left_in_log}
use Rattle.rep_log.proofs.log.Log.forget_below.Goals as goal

pub begin_anew-requires : goal.begin_anew-requires
begin_anew-requires c =
    c.from_stamp.ensures.ordered c.args.self.now.more (subst (λ (es : List ((Stamp × ℕ) × SessionOp)). T (is_sorted operation_cmp (es ++ c.args.self.now.more))) (sym c.left.ensures.items) c.requires)

pub returns : goal.returns
returns c =
    let keeps : (Stamp × ℕ) × SessionOp → Bool = λ e. not (is_below e.0.0 (Some c.args.stamp)) in
    let known = c.args.known.now in
    let more = c.args.self.now.more in
    ap (λ anew. cond anew [] known ++ c.forget_below.new.self) c.in_ok-begin_anew.ensures.anew
    ∙ c.forget_below.ensures
    ∙ ap (filter keeps) c.in_ok-begin_anew.ensures.more
    ∙ filter-append keeps c.from_stamp.result.now more
    ∙ ap (λ es. es ++ filter keeps more) (c.from_stamp.ensures.kept ∙ ap (filter keeps) c.left.ensures.items)
    ∙ sym (filter-append keeps (left_in_log known c.args.self.now) more)
