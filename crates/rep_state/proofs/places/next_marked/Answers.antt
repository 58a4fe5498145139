use Rattle.std.proofs.Common.{◌∷◌, suc, drop, sym, ap, ◌∙◌, add-one}
use Rattle.std.proofs.Math.Seq.{drop-cons}
use Rattle.rep_state.specs.declared.places.Place.{Place}
use Rattle.rep_entry.specs.Interests.{has_mark}
use Rattle.rep_state.proofs.Asking.{passed_one}
use Rattle.rep_state.proofs.places.next_marked.Goals as goal

pub loop-at-preserved : goal.loop-at-preserved
loop-at-preserved c =
    let places = c.args.places.now in
    let at = c.loop-at.at in
    let p = c.index-places-at.result in
    passed_one c.args.mark places c.args.from at p c.loop-at.invariant (drop-cons places at p c.loop-at-test.true ∙ ap (λ q. q ∷ drop (suc at) places) (sym c.index-places-at.is) ∙ ap (λ n. p ∷ drop n places) (sym (add-one at))) (ap (λ (q : Place). has_mark q.marks c.args.mark) c.index-places-at.is ∙ sym c.has_mark.ensures ∙ c.if-has_mark.false)
