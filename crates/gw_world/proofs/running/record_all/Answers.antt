-- One more delta joins the list.
use Rattle.std.proofs.Common.{◌≡◌, ◌+◌, [], ◌∷◌, ◌++◌, sym, ap, ◌∙◌, take, take_all}
use Rattle.std.proofs.lemmas.List.{take_more}
use Rattle.gw_world.proofs.Joining.{join_more}
use Rattle.gw_world.proofs.running.record_all.Goals as goal

pub loop-delta-preserved : goal.loop-delta-preserved
loop-delta-preserved c =
    let delta = c.delta-item.result in
    let before = take c.loop-delta.delta-index c.args.more.now in
    let more : take (c.loop-delta.delta-index + 1) c.args.more.now ≡ before ++ delta ∷ [] =
    take_more c.args.more.now c.loop-delta.delta-index delta c.loop-delta-test.true ∙ ap (λ x. before ++ x ∷ []) (sym c.delta-item.is) in
    rw more (join_more _ before _ _ delta c.loop-delta.invariant c.in_ok-record.ensures.writable c.in_ok-record.ensures.ok)

pub returns : goal.returns
returns c = let all = take_all c.loop-delta.delta-index c.args.more.now c.loop-delta-test.false in rw all at c.loop-delta.invariant
