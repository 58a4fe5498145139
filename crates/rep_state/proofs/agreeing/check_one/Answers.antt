use Rattle.std.proofs.Common.{refl, sym, subst, ◌∙◌, true≢false, ⊎_elim}
use Rattle.rep_shared.specs.Rows.{flat}
use Rattle.rep_shared.specs.inner.Tables.{IsRefusalOf}
use Rattle.rep_shared.proofs.Found.{agrees_flat, agrees_own}
use Rattle.rep_state.specs.Tables.{by_client, rows_of}
use Rattle.rep_state.proofs.agreeing.check_one.Goals as goal

pub returns-then-not-agrees-clause-fault : goal.returns-then-not-agrees-clause-fault
returns-then-not-agrees-clause-fault c =
    let rows = rows_of (by_client c.args.table.now.entries) in
    let op = c.args.op.now in
    ⊎_elim
    (λ is. subst (IsRefusalOf (flat rows) op) (sym is) (refl, λ h. true≢false (sym (c.agrees.ensures.1 (agrees_own rows c.requires.rows op h)) ∙ c.if-not-agrees.true)))
    (λ is. subst (IsRefusalOf (flat rows) op) (sym is) tt)
    c.conflict.ensures

pub returns-clause-agrees : goal.returns-clause-agrees
returns-clause-agrees c = agrees_flat (rows_of (by_client c.args.table.now.entries)) c.requires.rows c.args.op.now (c.agrees.ensures.0 c.if-not-agrees.false)
