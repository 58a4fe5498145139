-- One more call, or one that is none of the node.
use Rattle.std.proofs.Common.{◌≡◌, ◌+◌, ◌∷◌, ◌++◌, [], List, length, map, refl, sym, ap, ◌∙◌, subst, take, take_all}
use Rattle.std.specs.Arc.{arc_value}
use Rattle.std.proofs.lemmas.List.{take_more}
use Rattle.std.proofs.lemmas.Option.{slice_get_read}
use Rattle.gw_answer.specs.declared.step.Step.{Step}
use Rattle.gw_world.specs.declared.event.Call.{Call}
use Rattle.gw_world.specs.Field.{AreStepsOf}
use Rattle.gw_world.specs.inner.Events.{listing}
use Rattle.gw_world.proofs.Agreeing.{steps-push, missing-among}
use Rattle.gw_world.proofs.Fields.{map_push}
use Rattle.gw_world.proofs.rows.steps_of.Goals as goal

pub loop-call-preserved : goal.loop-call-preserved
loop-call-preserved c =
    let call = c.call-item.result in
    let before = take c.loop-call.call-index c.args.calls.now in
    let more : take (c.loop-call.call-index + 1) c.args.calls.now ≡ before ++ call ∷ [] =
    take_more c.args.calls.now c.loop-call.call-index call c.loop-call-test.true ∙ ap (λ x. before ++ x ∷ []) (sym c.call-item.is) in
    let steps : map arc_value c.push.new.self.items ≡ map arc_value c.loop-call.steps.items ++ c.in-Ok.step ∷ [] =
    ap (λ xs. map arc_value xs) c.in_ok-push.ensures.items ∙ map_push arc_value c.loop-call.steps.items c.in_ok-share.share ∙ ap (λ (s : Step). map arc_value c.loop-call.steps.items ++ s ∷ []) c.in_ok-share.ensures in
    subst (λ (xs : List Call). AreStepsOf (listing c.args.deltas.now) xs (map arc_value c.push.new.self.items)) (sym more)
    (subst (λ (ss : List Step). AreStepsOf (listing c.args.deltas.now) (before ++ call ∷ []) ss) (sym steps)
    (steps-push (listing c.args.deltas.now) before (map arc_value c.loop-call.steps.items) call c.in-Ok.step c.loop-call.invariant c.in-Ok.ensures.ok))

pub returns-in-Err-clause-err : goal.returns-in-Err-clause-err
returns-in-Err-clause-err c =
    missing-among c.args.deltas.now c.args.calls.now c.loop-call.call-index c.call-item.result c.args.number c.in-Err.fault
    (slice_get_read c.args.calls.now (length c.args.calls.now) c.loop-call.call-index c.call-item.result refl c.loop-call-test.true c.call-item.is) c.in-Err.ensures.err

pub returns-clause-ok : goal.returns-clause-ok
returns-clause-ok c = let all = take_all c.loop-call.call-index c.args.calls.now c.loop-call-test.false in rw all at c.loop-call.invariant
