-- One more is none, or one is.
use Rattle.std.proofs.Common.{◌≡◌, ◌+◌, ◌∷◌, ◌++◌, [], true≢false, refl, sym, ap, ◌∙◌, take, take_all}
use Rattle.std.proofs.lemmas.List.{take_more}
use Rattle.gw_world.specs.inner.Events.{IsNoFailure}
use Rattle.gw_world.proofs.Joining.{all_push}
use Rattle.gw_world.proofs.rows.has_failure.Goals as goal

pub loop-reply-preserved : goal.loop-reply-preserved
loop-reply-preserved c =
    let reply = c.reply-item.result in
    let before = take c.loop-reply.reply-index c.args.replies.now in
    let more : take (c.loop-reply.reply-index + 1) c.args.replies.now ≡ before ++ reply ∷ [] =
    take_more c.args.replies.now c.loop-reply.reply-index reply c.loop-reply-test.true ∙ ap (λ x. before ++ x ∷ []) (sym c.reply-item.is) in
    rw more (all_push IsNoFailure before reply c.loop-reply.invariant (c.is_failure.ensures c.if-is_failure.false))

pub returns : goal.returns
returns c = λ e. let all = take_all c.loop-reply.reply-index c.args.replies.now c.loop-reply-test.false in rw all at c.loop-reply.invariant
