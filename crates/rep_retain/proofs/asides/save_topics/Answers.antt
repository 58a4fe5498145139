use Rattle.std.proofs.Common.{Bool, sym, ap, ◌∙◌, subst}
use Rattle.rep_retain.specs.Asides.{topics_back, AreTopicsSaved}
use Rattle.rep_retain.proofs.asides.save_topics.Goals as goal

-- it lies there
pub returns-then-has_topics-clause-saved : goal.returns-then-has_topics-clause-saved
returns-then-has_topics-clause-saved c = subst (λ (b : Bool). AreTopicsSaved b c.args.staged.now) (sym c.if-has_topics.true) tt

-- nothing is staged of it
pub returns-then-is_nothing-clause-saved : goal.returns-then-is_nothing-clause-saved
returns-then-is_nothing-clause-saved c =
    subst (λ (b : Bool). AreTopicsSaved b c.args.staged.now) (sym c.if-has_topics.false) (sym c.is_nothing.ensures ∙ c.if-is_nothing.true)

pub returns-clause-back : goal.returns-clause-back
returns-clause-back c = c.in_ok-topics.ensures ∙ sym (ap (λ (b : Bool). topics_back b c.args.aside.now c.args.table.now) c.if-has_topics.false)
