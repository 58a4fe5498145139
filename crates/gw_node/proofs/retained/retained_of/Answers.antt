use Rattle.std.proofs.Common.{ℕ, List, [], ◌∷◌, ◌++◌, drop, sym, ap, ◌∙◌, append_assoc, append-nil}
use Rattle.rep_op.specs.declared.op.Retained.{Retained}
use Rattle.rep_model.specs.Topics.{all_retained}
use Rattle.gw_node.proofs.retained.retained_of.Goals as goal

pub loop-behind-preserved : goal.loop-behind-preserved
loop-behind-preserved g c =
    let all = all_retained (g.R.Replica.kept c.args.replica.now) in
    ap (λ (xs : List (List ℕ × Retained)). xs ++ drop c.in-Some.behind all) c.in_ok-push.ensures
    ∙ append_assoc c.loop-behind.all.items ((c.in-Some.topic.now, c.in-Some.kept.now) ∷ []) (drop c.in-Some.behind all)
    ∙ ap (λ (xs : List (List ℕ × Retained)). c.loop-behind.all.items ++ xs) (sym c.in-Some.ensures.0) ∙ c.loop-behind.invariant

pub returns : goal.returns
returns g c =
    sym (append-nil c.loop-behind.all.items) ∙ ap (λ (xs : List (List ℕ × Retained)). c.loop-behind.all.items ++ xs) (sym c.in_default.ensures) ∙ c.loop-behind.invariant
