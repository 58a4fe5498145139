-- One more answer is told.
use Rattle.std.proofs.Common.{◌≡◌, ◌∷◌, ◌++◌, List, [], map, refl, sym, ap, ◌∙◌, subst, append-nil, append_assoc}
use Rattle.std.specs.List.{AllByRecursion}
use Rattle.gw_answer.specs.Answers.{said}
use Rattle.gw_world.specs.inner.Events.{IsFed}
use Rattle.gw_world.proofs.Rowing.{told-on, none-left}
use Rattle.gw_world.proofs.rows.tell_all.Goals as goal

pub loop-reply-preserved : goal.loop-reply-preserved
loop-reply-preserved c =
    let rest = c.next.new.self.rest.items in
    let before = c.loop-reply.answers.items in
    let answer = c.in_ok-answer.answer in
    let steps = c.in-Some.ensures.steps.0 in (
      ap (λ xs. map said xs ++ rest) c.in_ok-push.ensures.items ∙ told-on said before answer rest
          ∙ ap (λ told. map said before ++ told ∷ rest) (c.in_ok-answer.ensures.same ∙ c.one_share.ensures)
          ∙ ap (λ xs. map said before ++ xs) (sym steps) ∙ c.loop-reply.invariant.0,
      λ fed. c.loop-reply.invariant.1 (subst (λ xs. AllByRecursion IsFed xs) (sym steps) (subst IsFed c.one_share.ensures c.in_ok-answer.ensures.memory, fed)),
    )

pub returns-clause-told : goal.returns-clause-told
returns-clause-told c =
    let left = none-left c.loop-reply.reply-iterator.rest.len c.loop-reply.reply-iterator.rest.items c.in-None.ensures.steps.0 c.loop-reply.reply-iterator.rest.ok.0 in
    sym (append-nil (map said c.loop-reply.answers.items)) ∙ ap (λ xs. map said c.loop-reply.answers.items ++ xs) (sym left) ∙ c.loop-reply.invariant.0

pub returns-clause-fed : goal.returns-clause-fed
returns-clause-fed c =
    let left = none-left c.loop-reply.reply-iterator.rest.len c.loop-reply.reply-iterator.rest.items c.in-None.ensures.steps.0 c.loop-reply.reply-iterator.rest.ok.0 in
    c.loop-reply.invariant.1 (subst (λ xs. AllByRecursion IsFed xs) (sym left) tt)
