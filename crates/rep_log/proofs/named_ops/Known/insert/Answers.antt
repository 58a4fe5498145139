use Rattle.std.proofs.Common.{◌≡◌, ℕ, List, T, None, Some, sym, ap, subst, ◌∙◌}
use Rattle.std.specs.FinMap.{find, put, is_sorted}
use Rattle.std.specs.FinMap.Entries.{is_sorted-put}
use Rattle.sn_session.specs.declared.change.SessionOp.{SessionOp}
use Rattle.sn_tables.specs.inner.Tables.{IsGap}
use Rattle.rep_op.specs.declared.op.Stamp.{Stamp}
use Rattle.rep_op.specs.Orders.{operation_cmp}
use Rattle.rep_model.proofs.Readers.{operation_total}
use Rattle.rep_log.proofs.Sorting.{found_at, put_gap}
use Rattle.rep_log.proofs.named_ops.Known.insert.Goals as goal

pub unreachable-requires : goal.unreachable-requires
unreachable-requires c =
    let d : (Stamp × ℕ) × SessionOp = (c.args.name, c.args.change) in
    let found = found_at operation_cmp operation_total c.args.name c.as_slice.result.now c.in-Ok.field-0 d c.in-Ok.ensures.place.1 in
    some_none (sym found ∙ ap (find operation_cmp c.args.name) (c.as_slice.ensures.value ∙ c.self.view_is) ∙ c.requires)
  where
    some_none : {X : Type 0} {x : X} → Some x ≡ None → ⊥
    some_none e = cc

pub invariant_of-self : goal.invariant_of-self
invariant_of-self c =
    let es = c.self.inside.ops.items in
    let gap = subst (λ (xs : List ((Stamp × ℕ) × SessionOp)). IsGap (λ (e : (Stamp × ℕ) × SessionOp). operation_cmp e.0 c.args.name) xs c.in-Err.at) c.as_slice.ensures.value c.in-Err.ensures.place.1 in
    let is = c.in_ok-insert-in-Err.ensures.items ∙ put_gap operation_cmp operation_total c.args.name c.args.change es c.in-Err.at gap in
    subst (λ (xs : List ((Stamp × ℕ) × SessionOp)). T (is_sorted operation_cmp xs)) (sym is) (is_sorted-put operation_cmp operation_total c.args.name c.args.change es c.self.invariant)

pub returns : goal.returns
returns c =
    let es = c.self.inside.ops.items in
    let gap = subst (λ (xs : List ((Stamp × ℕ) × SessionOp)). IsGap (λ (e : (Stamp × ℕ) × SessionOp). operation_cmp e.0 c.args.name) xs c.in-Err.at) c.as_slice.ensures.value c.in-Err.ensures.place.1 in
    c.in_ok-insert-in-Err.ensures.items ∙ put_gap operation_cmp operation_total c.args.name c.args.change es c.in-Err.at gap ∙ ap (put operation_cmp c.args.name c.args.change) c.self.view_is
