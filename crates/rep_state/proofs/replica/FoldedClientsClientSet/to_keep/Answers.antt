use Rattle.std.proofs.Common.{◌≡◌, List, sym, ap, subst, ◌∙◌}
use Rattle.std.proofs.lemmas.Result.{IfOk-weaker}
use Rattle.rep_op.specs.declared.op.Op.{Op}
use Rattle.rep_op.specs.Sets.{Same}
use Rattle.rep_ops.specs.Making.{AreWellMade}
use Rattle.rep_model.specs.Keep.{keep}
use Rattle.rep_shared.specs.Rows.{flat}
use Rattle.rep_state.specs.Tables.{by_client, rows_of}
use Rattle.rep_state.proofs.Working.{made_flat, keeps_flat}
use Rattle.rep_state.proofs.replica.FoldedClientsClientSet.to_keep.Goals as goal

pub returns-clause-ok : goal.returns-clause-ok
returns-clause-ok c =
    let es = by_client c.self.inside.table.entries in
    let S = flat (rows_of es) in
    let same = subst (λ rows. Same S (keep (flat rows))) c.self.view_is (keeps_flat es c.self.inside.named c.self.invariant.0) in
    IfOk-weaker c.kept_ops.result (λ ops. ops.items ≡ S) _ (λ ops h. subst (λ (xs : List Op). Same xs (keep (flat c.args.self.now))) (sym h) same) c.kept_ops.ensures

pub returns-clause-well : goal.returns-clause-well
returns-clause-well c =
    let es = by_client c.self.inside.table.entries in
    let S = flat (rows_of es) in
    IfOk-weaker c.kept_ops.result (λ ops. ops.items ≡ S) _ (λ ops h. subst AreWellMade (sym h) (made_flat es c.self.inside.named c.self.invariant.0)) c.kept_ops.ensures

pub returns-clause-made : goal.returns-clause-made
returns-clause-made c = subst (λ rows. AreWellMade (flat rows)) c.self.view_is (made_flat (by_client c.self.inside.table.entries) c.self.inside.named c.self.invariant.0)
