use Rattle.std.proofs.Common.{◌≡◌, ℕ, List, T, sym, subst, ◌∙◌}
use Rattle.std.specs.FinMap.{is_sorted}
use Rattle.rep_op.specs.declared.op.Op.{Op}
use Rattle.rep_op.specs.Orders.{client_cmp}
use Rattle.rep_shared.specs.Rows.{flat, rows_with, CanGoBack}
use Rattle.rep_plain.specs.Tables.{rows_of}
use Rattle.rep_shared.proofs.Undo.{commit_back}
use Rattle.rep_plain.proofs.Found.{table_rows}
use Rattle.rep_plain.proofs.plain.PlainClientsClientSet.commit.Goals as goal

pub returns-clause-aside : goal.returns-clause-aside
returns-clause-aside c =
    let es = c.self.inside.table.entries in
    let before = c.args.self.now in
    let staged = c.args.staged in
    let sorted = subst (λ (rows : List (List ℕ × List Op)). T (is_sorted client_cmp rows)) c.self.view_is (table_rows es c.self.inside.named c.self.invariant).sorted in
    let all : rows_of c.move_in.new.table.entries ≡ rows_with before staged.0 = c.move_in.ensures.rows ∙ (λ i. rows_with (c.self.view_is i) (c.staged.view_is i).0) in
    λ aside saved can. subst (λ (rows : List (List ℕ × List Op)). CanGoBack rows aside × (flat (rows_with rows aside) ≡ flat (rows_with before aside))) (sym all) (commit_back before staged.0 aside sorted saved can)
