use Rattle.std.proofs.Common.{◌≡◌, ℕ, List, [], ◌∷◌, filter, IfOk, sym, ap, subst, ◌∙◌}
use Rattle.rep_op.specs.declared.op.Retained.{Retained}
use Rattle.rep_model.specs.Topics.{is_offered}
use Rattle.rep_retain.proofs.Naming.{one_at, none_gap}
use Rattle.rep_retain.proofs.table.named.Goals as goal

pub returns-in-Ok : goal.returns-in-Ok
returns-in-Ok c =
    let asked = c.args.asked.now in
    let d = c.index-entries-at.result in
    let one =
    one_at asked c.requires.plain c.args.entries.now c.in-Ok.at d c.in-Ok.ensures.1
    ∙ ap (λ (e : List ℕ × Retained). filter (is_offered asked) (e ∷ [])) (sym c.index-entries-at.is) in
    subst (λ all. IfOk c.one_offered.result (λ found. found.items ≡ all)) (sym one) c.one_offered.ensures

pub returns-in-Err : goal.returns-in-Err
returns-in-Err c = c.new.ensures.items ∙ sym (none_gap c.args.asked.now c.requires.plain c.args.entries.now c.in-Err.field-0 c.in-Err.ensures.1)
