use Rattle.std.proofs.Common.{◌∷◌, ◌++◌, [], take, sym, ap, subst, ◌∙◌}
use Rattle.std.proofs.lemmas.List.{take_more}
use Rattle.rep_entry.specs.Interests.{AskWithin, mark_of}
use Rattle.rep_entry.proofs.Asking.{more_marks, marks_append, second_mark}
use Rattle.rep_entry.proofs.interest.marks_among.Goals as goal

pub loop-subscription-preserved : goal.loop-subscription-preserved
loop-subscription-preserved c =
    let all = c.args.subscriptions.now in
    let i = c.loop-subscription.subscription-index in
    let old = c.loop-subscription.marks in
    let x = c.marks_in-marks.result in
    let s = c.subscription-item.result in
    let new = Rattle.std.specs.Int.RustNames.bit_or old x in
    subst (AskWithin new) (sym (take_more all i s c.loop-subscription-test.true ∙ ap (λ r. take i all ++ r ∷ []) (sym c.subscription-item.is)))
    (marks_append new (take i all) (s ∷ []) (more_marks old x (take i all) c.loop-subscription.invariant) ((λ topic is. second_mark old x (mark_of topic) (c.marks_in-marks.ensures topic is)), tt))
