use Rattle.std.proofs.Common.{ℕ, ◌++◌, ◌∷◌, [], List, cond, sym, ap, ◌∙◌}
use Rattle.rep_op.specs.declared.op.Retained.{Retained}
use Rattle.rep_retain.proofs.table.one_offered.Goals as goal

pub returns-then-not-is_offered : goal.returns-then-not-is_offered
returns-then-not-is_offered c =
    let e : List ℕ × Retained = c.args.entry.now in
    c.new-found.ensures.items ∙ ap (λ b. cond b (e ∷ []) []) (sym c.if-not-is_offered.true ∙ c.is_offered.ensures)

pub returns : goal.returns
returns c =
    let e : List ℕ × Retained = c.args.entry.now in
    c.in_ok-push_entry.ensures ∙ ap (λ es. es ++ e ∷ []) c.new-found.ensures.items ∙ ap (λ b. cond b (e ∷ []) []) (sym c.if-not-is_offered.false ∙ c.is_offered.ensures)
