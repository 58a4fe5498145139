use Rattle.std.proofs.Common.{◌≡◌, List, refl, sym, ap, subst, ◌∙◌}
use Rattle.std.proofs.lemmas.Result.{IfOk-weaker}
use Rattle.rep_op.specs.declared.op.Op.{Op}
use Rattle.rep_op.specs.Sets.{Same}
use Rattle.rep_ops.specs.Making.{AreWellMade}
use Rattle.rep_model.specs.Keep.{keep}
use Rattle.rep_model.proofs.Joins.{same_refl}
use Rattle.rep_shared.specs.Rows.{flat}
use Rattle.rep_plain.specs.inner.Rows.{kept_rows}
use Rattle.rep_plain.specs.Tables.{rows_of}
use Rattle.rep_plain.proofs.Found.{table_rows}
use Rattle.rep_plain.proofs.Kept.{kept_flat, kept_made}
use Rattle.rep_shared.proofs.Kept.{made_rows}
use Rattle.rep_plain.proofs.plain.PlainClientsClientSet.to_keep.Goals as goal

pub returns-clause-ok : goal.returns-clause-ok
returns-clause-ok c =
    let es = c.self.inside.table.entries in
    let are = table_rows es c.self.inside.named c.self.invariant in
    let same = kept_flat (rows_of es) are ∙ ap (λ rows. keep (flat rows)) c.self.view_is in
    IfOk-weaker c.kept_ops.result (λ ops. ops.items ≡ kept_rows (rows_of es)) _ (λ ops h. subst (λ (S : List Op). Same ops.items S) (h ∙ same) (same_refl ops.items)) c.kept_ops.ensures

pub returns-clause-well : goal.returns-clause-well
returns-clause-well c =
    let es = c.self.inside.table.entries in
    let are = table_rows es c.self.inside.named c.self.invariant in
    IfOk-weaker c.kept_ops.result (λ ops. ops.items ≡ kept_rows (rows_of es)) _ (λ ops h. subst AreWellMade (sym h) (kept_made (rows_of es) are.owned)) c.kept_ops.ensures

pub returns-clause-made : goal.returns-clause-made
returns-clause-made c =
    let es = c.self.inside.table.entries in
    subst (λ rows. AreWellMade (flat rows)) c.self.view_is (made_rows (rows_of es) (table_rows es c.self.inside.named c.self.invariant).owned)
