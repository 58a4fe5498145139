use Rattle.std.proofs.Common.{◌+◌, ◌∷◌, IsTrue, drop, sym, ap, subst, ◌∙◌}
use Rattle.sn_tables.specs.Tables.{is_ascending}
use Rattle.rep_retain.specs.Tables.{entry_cmp}
use Rattle.rep_retain.specs.inner.Tables.{with_ops}
use Rattle.rep_retain.proofs.Placing.{next_of, ascending_op}
use Rattle.rep_retain.proofs.table.put_all.Goals as goal

pub loop-op-preserved : goal.loop-op-preserved
loop-op-preserved c =
    let es = c.loop-op.entries.items in
    let ops = c.args.ops.now in
    let i = c.loop-op.op-index in
    let op = c.op-item.result in
    let rest = drop (i + 1) ops in
    let here = next_of ops i op c.loop-op-test.true ∙ ap (λ x. x ∷ rest) (sym c.op-item.is) in record {
      ascending = subst (λ es. IsTrue (is_ascending entry_cmp es)) (sym c.in_ok-put_op.ensures) (ascending_op es op c.loop-op.invariant.ascending);
      made = ap (λ es. with_ops es rest) c.in_ok-put_op.ensures ∙ ap (with_ops es) (sym here) ∙ c.loop-op.invariant.made;
    }
