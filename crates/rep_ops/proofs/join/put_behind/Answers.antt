use Rattle.std.proofs.Common.{vec_len, ◌∙◌, sym, ◌≡◌, ◌∷◌, [], ◌++◌}
use Rattle.std.proofs.lemmas.Result.{IfOk-weaker}
use Rattle.rep_ops.specs.inner.Joining.{joined_ops}
use Rattle.rep_ops.proofs.Joining.{first_joined}
use Rattle.rep_ops.proofs.join.put_behind.Goals as goal

pub returns-in-None : goal.returns-in-None
returns-in-None c = λ S e.
    IfOk-weaker c.push.result (λ _. c.push.new.out.items ≡ c.pop.new.self.items ++ c.args.op ∷ [])
    (λ _. c.push.new.out.items ≡ joined_ops (S ++ c.args.op ∷ []))
    (λ _ pushed. pushed ∙ first_joined S c.args.out.now.items c.pop.new.self.items (vec_len c.args.out.now) c.args.op c.in-None.ensures.cases.0 c.in-None.ensures.rest c.in-None.ensures.items e)
    c.push.ensures

pub returns-in-Some : goal.returns-in-Some
returns-in-Some c = λ S e. c.put_both.ensures S (sym c.in-Some.ensures.items ∙ e)
