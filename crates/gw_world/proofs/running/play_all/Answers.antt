-- One more event, or the event that stops the run.
use Rattle.std.proofs.Common.{◌≡◌, ◌+◌, ◌∷◌, ◌++◌, [], refl, sym, ap, ◌∙◌, take, take_all}
use Rattle.std.proofs.lemmas.List.{take_more}
use Rattle.std.proofs.lemmas.Option.{slice_get_read}
use Rattle.gw_world.proofs.Fields.{run_on, stops_here, stood_now}
use Rattle.gw_world.proofs.running.play_all.Goals as goal

pub play_event-requires : goal.play_event-requires
play_event-requires g c = stood_now _ _ _ _ _ _ c.requires c.loop-index.invariant

pub loop-index-preserved : goal.loop-index-preserved
loop-index-preserved g c =
    let event = c.index-events-index.result in
    let before = take c.loop-index.index c.args.events.now in
    let events : take (c.loop-index.index + 1) c.args.events.now ≡ before ++ event ∷ [] =
    take_more c.args.events.now c.loop-index.index event c.loop-index-test.true ∙ ap (λ x. before ++ x ∷ []) (sym c.index-events-index.is) in
    rw (events, c.in_ok-push.ensures.items) (run_on _ _ _ _ _ _ _ _ _ _ c.loop-index.invariant c.in-Ok.ensures.ok)

pub returns-in-Err-clause-err : goal.returns-in-Err-clause-err
returns-in-Err-clause-err g c =
    stops_here _ _ c.args.events.now c.loop-index.index c.loop-index.answers.items _ _ c.index-events-index.result c.in-Err.fault c.loop-index.invariant
    (slice_get_read c.args.events.now _ c.loop-index.index c.index-events-index.result refl c.loop-index-test.true c.index-events-index.is)
    c.in-Err.ensures.err

pub returns-clause-ok : goal.returns-clause-ok
returns-clause-ok g c = let all = take_all c.loop-index.index c.args.events.now c.loop-index-test.false in rw all at c.loop-index.invariant
