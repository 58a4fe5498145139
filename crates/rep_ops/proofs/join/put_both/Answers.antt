use Rattle.std.proofs.Common.{◌∙◌, sym, ◌≡◌, ◌∷◌, [], ◌++◌}
use Rattle.std.proofs.lemmas.Result.{IfOk-weaker}
use Rattle.rep_ops.specs.inner.Joining.{united, joined_ops}
use Rattle.rep_ops.proofs.Joining.{one_joined, both_joined}
use Rattle.rep_ops.proofs.join.put_both.Goals as goal

pub returns-then-joins : goal.returns-then-joins
returns-then-joins c = λ S e.
    IfOk-weaker c.put_united.result (λ _. c.put_united.new.out.items ≡ c.args.out.now.items ++ united c.args.last c.args.op ∷ [])
    (λ _. c.put_united.new.out.items ≡ joined_ops (S ++ c.args.op ∷ []))
    (λ _ put. put ∙ one_joined S c.args.out.now.items c.args.last c.args.op (sym c.joins.ensures ∙ c.if-joins.true) e)
    c.put_united.ensures

pub returns-else-joins : goal.returns-else-joins
returns-else-joins c = λ S e.
    IfOk-weaker c.put_two.result (λ _. c.put_two.new.out.items ≡ (c.args.out.now.items ++ c.args.last ∷ []) ++ c.args.op ∷ [])
    (λ _. c.put_two.new.out.items ≡ joined_ops (S ++ c.args.op ∷ []))
    (λ _ put. put ∙ both_joined S c.args.out.now.items c.args.last c.args.op (sym c.joins.ensures ∙ c.if-joins.false) e)
    c.put_two.ensures
