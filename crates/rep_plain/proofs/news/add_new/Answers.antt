use Rattle.std.proofs.Common.{◌++◌, ◌∷◌, [], not, if◌then◌else◌, refl, sym, ap, subst, ◌∙◌, append-nil, true≢false, ⊎_elim}
use Rattle.rep_op.specs.Sets.{Agrees}
use Rattle.rep_shared.specs.Rows.{flat, own}
use Rattle.rep_plain.specs.Tables.{rows_of}
use Rattle.rep_plain.specs.inner.Tables.{is_op_there}
use Rattle.rep_shared.specs.inner.Tables.{IsRefusalOf}
use Rattle.rep_shared.proofs.Found.{agrees_flat, agrees_own}
use Rattle.rep_plain.proofs.Found.{known_row}
use Rattle.rep_plain.proofs.news.add_new.Goals as goal
use Rattle.rep_plain.proofs.news.add_new.Goals.{then-not-is_op_there+in_ok-push_copy, else-not-is_op_there}

pub returns-then-not-agrees-clause-fault : goal.returns-then-not-agrees-clause-fault
returns-then-not-agrees-clause-fault c =
    let rows = rows_of c.args.table.now.entries in
    let op = c.args.op.now in
    let same = c.own_ops-kept.ensures ∙ ap (λ x. own x rows) c.client.ensures in
    ⊎_elim
    (λ is. subst (IsRefusalOf (flat rows) op) (sym is) (refl, λ h. true≢false (sym (c.agrees.ensures.1 (subst (λ S. Agrees S op) (sym same) (agrees_own rows c.requires.rows op h))) ∙ c.if-not-agrees.true)))
    (λ is. subst (IsRefusalOf (flat rows) op) (sym is) tt)
    c.conflict.ensures

pub returns-clause-agrees : goal.returns-clause-agrees
returns-clause-agrees c =
    let rows = rows_of c.args.table.now.entries in
    let same = c.own_ops-kept.ensures ∙ ap (λ x. own x rows) c.client.ensures in
    agrees_flat rows c.requires.rows c.args.op.now (subst (λ S. Agrees S c.args.op.now) same (c.agrees.ensures.0 c.if-not-agrees.false))

pub returns-clause-added : goal.returns-clause-added
returns-clause-added c =
    let rows = rows_of c.args.table.now.entries in
    let op = c.args.op.now in
    let same = c.own_ops-kept.ensures ∙ ap (λ x. own x rows) c.client.ensures in
    let known = c.is_op_there.ensures ∙ ap (λ S. is_op_there S op) same ∙ known_row rows c.requires.rows op in
    elim c.if-not-is_op_there.branch [
      | then-not-is_op_there+in_ok-push_copy w ↦ ap (λ news. news.items) w.news-is ∙ w.in_ok-push_copy.ensures ∙ ap (λ b. c.args.news.now.items ++ (if not b then op ∷ [] else [])) (sym w.if-not-is_op_there.true ∙ known)
      | else-not-is_op_there w ↦ ap (λ news. news.items) w.news-is ∙ sym (append-nil c.args.news.now.items) ∙ ap (λ b. c.args.news.now.items ++ (if not b then op ∷ [] else [])) (sym w.if-not-is_op_there.false ∙ known)
    ]
