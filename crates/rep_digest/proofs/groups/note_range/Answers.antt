use Rattle.std.proofs.Common.{◌≡◌, ◌++◌, ◌∷◌, [], get_or, sym, ap, ◌∙◌}
use Rattle.std.specs.Prelude.{slice_set}
use Rattle.rep_digest.specs.inner.Steps.{groups}
use Rattle.rep_digest.proofs.Grouping.{nowhere, at_place}
use Rattle.rep_digest.proofs.groups.note_range.Goals as goal

pub returns-in-Err : goal.returns-in-Err
returns-in-Err c = λ W h. h ∙ sym (nowhere W c.args.client.now c.args.range.origin c.args.range.first c.args.range.last c.args.clients.now c.in-Err.field-0 c.in-Err.ensures.1)

pub returns-in_ok-push-in-Some : goal.returns-in_ok-push-in-Some
returns-in_ok-push-in-Some c =
    λ W h.
    let at = c.in-Ok.at in
    let there = at_place W c.args.client.now c.args.range.origin c.args.range.first c.args.range.last c.args.clients.now at [] c.in-Ok.ensures.1 in
    let grown : c.push.new.self ≡ get_or (groups c.args.clients.now W) at [] ++ c.args.range ∷ [] =
    c.in_ok-push-in-Some.ensures.ok ∙ ap (λ g. g ++ c.args.range ∷ []) (c.in-Some.ensures.item.3.1 [] ∙ ap (λ gs. get_or gs at []) h) in
    (λ i. slice_set (h i) at (grown i)) ∙ sym there
