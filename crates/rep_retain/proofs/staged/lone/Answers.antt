use Rattle.std.proofs.Common.{◌≡◌, [], ◌∷◌, List, sym, ap, ◌∙◌}
use Rattle.rep_op.specs.declared.op.Op.{Op}
use Rattle.rep_retain.proofs.Ready.{no_ops}
use Rattle.rep_retain.proofs.staged.lone.Goals as goal

pub returns-in-Retain : goal.returns-in-Retain
returns-in-Retain c =
    let split : c.args.ops.now ≡ c.in-Some.first.now ∷ c.in-Some.rest.now = c.in-Some.ensures.cases.0 in
    split
    ∙ ap (λ (rest : List Op). c.in-Some.first.now ∷ rest) (no_ops c.in-Some.rest.now (sym c.is_empty.ensures ∙ c.if-not-is_empty.false))
    ∙ ap (λ (op : Op). op ∷ []) c.in-Retain.is
