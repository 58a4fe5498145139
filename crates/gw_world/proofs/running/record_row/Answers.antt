-- One more answer.
use Rattle.std.proofs.Common.{◌≡◌, ◌+◌, List, [], ◌∷◌, ◌++◌, map, sym, ap, ◌∙◌, subst, take, take_all, append-nil}
use Rattle.std.proofs.lemmas.List.{take_more}
use Rattle.std.proofs.lemmas.List.Concat.{flat_map-append}
use Rattle.rep_op.specs.declared.op.Op.{Op}
use Rattle.gw_answer.specs.Answers.{said}
use Rattle.gw_world.specs.Events.{made_of}
use Rattle.gw_world.specs.Whole.{made_of_all}
use Rattle.gw_world.specs.inner.Events.{Join}
use Rattle.gw_world.proofs.Fields.{map_push}
use Rattle.gw_world.proofs.Joining.{join_both}
use Rattle.gw_world.proofs.running.record_row.Goals as goal

pub loop-answer-preserved : goal.loop-answer-preserved
loop-answer-preserved c =
    let answer = c.answer-item.result in
    let before = take c.loop-answer.answer-index c.args.answers.now in
    let more : take (c.loop-answer.answer-index + 1) c.args.answers.now ≡ before ++ answer ∷ [] =
    take_more c.args.answers.now c.loop-answer.answer-index answer c.loop-answer-test.true ∙ ap (λ x. before ++ x ∷ []) (sym c.answer-item.is) in
    let made : made_of_all (map said (take (c.loop-answer.answer-index + 1) c.args.answers.now)) ≡ made_of_all (map said before) ++ made_of (said answer) =
    ap (λ xs. made_of_all (map said xs)) more ∙ ap (λ rs. made_of_all rs) (map_push said before answer)
    ∙ flat_map-append made_of (map said before) (said answer ∷ []) ∙ ap (λ ds. made_of_all (map said before) ++ ds) (append-nil (made_of (said answer))) in
    subst (λ (ds : List (List Op)). Join c.args.deltas.now.items ds c.record_made.new.deltas.items) (sym made)
    (join_both c.args.deltas.now.items (made_of_all (map said before)) c.loop-answer.deltas.items (made_of (said answer)) c.record_made.new.deltas.items c.loop-answer.invariant c.in_ok-record_made.ensures)

pub returns : goal.returns
returns c = let all = take_all c.loop-answer.answer-index c.args.answers.now c.loop-answer-test.false in rw all at c.loop-answer.invariant
