use Rattle.std.proofs.Common.{ℕ, List, IsSome, ◌++◌, ◌∷◌, [], take, sym, ap, subst, ◌∙◌}
use Rattle.std.specs.FinMap.{find}
use Rattle.std.proofs.lemmas.List.{take_more}
use Rattle.rep_op.specs.declared.op.Op.{Op}
use Rattle.rep_op.specs.Orders.{client_cmp}
use Rattle.rep_shared.specs.Rows.{AreSaved}
use Rattle.rep_plain.specs.declared.entry.Entry.{Entry}
use Rattle.rep_plain.specs.Tables.{rows_of}
use Rattle.rep_plain.proofs.Counting.{entries_from_rows}
use Rattle.rep_plain.proofs.Moves.{rows_last}
use Rattle.rep_plain.proofs.Backs.{saving_itself, saving_then, saved_more, all_get}
use Rattle.rep_plain.proofs.asides.save_all.Goals as goal

pub loop-row-init : goal.loop-row-init
loop-row-init c = (c.requires.aside, saving_itself (rows_of c.args.table.now.entries) (rows_of c.args.aside.now.entries), tt)

pub save_one-requires-clause-there : goal.save_one-requires-clause-there
save_one-requires-clause-there c =
    let rows = rows_of c.args.table.now.entries in
    let fresh = c.args.fresh.now in
    let each = entries_from_rows (λ (k : List ℕ) (ops : List Op). IsSome (find client_cmp k rows)) fresh c.requires.room in
    subst (λ (f : List ℕ × Entry). IsSome (find client_cmp f.0 rows)) (sym c.row-item.is)
    (all_get (λ (f : List ℕ × Entry). IsSome (find client_cmp f.0 rows)) fresh c.loop-row.row-index c.row-item.result c.loop-row-test.true each)

pub save_one-requires-clause-aside : goal.save_one-requires-clause-aside
save_one-requires-clause-aside c = c.loop-row.invariant.0

pub save_one-requires-clause-can : goal.save_one-requires-clause-can
save_one-requires-clause-can c = c.loop-row.invariant.1.can c.requires.can

pub returns-in_err-save_one-clause-saving : goal.returns-in_err-save_one-clause-saving
returns-in_err-save_one-clause-saving c = saving_then c.loop-row.invariant.1 c.in_err-save_one.ensures.saving

pub returns-clause-table : goal.returns-clause-table
returns-clause-table c = c.loop-row.invariant.0

pub returns-clause-saving : goal.returns-clause-saving
returns-clause-saving c = c.loop-row.invariant.1

pub loop-row-preserved : goal.loop-row-preserved
loop-row-preserved c =
    let rows = rows_of c.args.table.now.entries in
    let old = rows_of c.loop-row.aside.entries in
    let new = rows_of c.save_one.new.aside.entries in
    let fresh = c.args.fresh.now in
    let row = c.row-item.result in
    let done = take c.loop-row.row-index fresh in
    let h = c.in_ok-save_one.ensures.saving in
    let is = ap rows_of (take_more fresh c.loop-row.row-index row c.loop-row-test.true ∙ ap (λ r. done ++ r ∷ []) (sym c.row-item.is)) ∙ rows_last done row in (
      c.in_ok-save_one.ensures.table,
      saving_then c.loop-row.invariant.1 h,
      subst (λ (xs : List (List ℕ × List Op)). AreSaved new xs) (sym is) (saved_more rows old new (rows_of done) (row.0, row.1.ops.items) h c.loop-row.invariant.2 c.in_ok-save_one.ensures.saved),
    )
