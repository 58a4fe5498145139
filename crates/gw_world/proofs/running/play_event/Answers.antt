-- The event is at the gateway in the place of its number.
use Rattle.std.proofs.Common.{sym}
use Rattle.std.proofs.lemmas.Result.{IfOk-weaker, IfErr-weaker}
use Rattle.gw_world.proofs.Moving.{missing_stops, absent_stops}
use Rattle.gw_world.proofs.running.play_event.Goals as goal

pub returns-in-Some-clause-ok : goal.returns-in-Some-clause-ok
returns-in-Some-clause-ok g c =
    IfOk-weaker c.play_at.result _ _ (λ answer h. (c.in-Some.place, sym (rw (c.as_slice.ensures.value, c.gateway.ensures) at c.in-Some.ensures.place), h)) c.play_at.ensures.ok

pub returns-in-Some-clause-err : goal.returns-in-Some-clause-err
returns-in-Some-clause-err g c =
    IfErr-weaker c.play_at.result _ _
    (λ fault h. missing_stops _ _ c.args.event.now c.args.number fault c.in-Some.place (sym (rw (c.as_slice.ensures.value, c.gateway.ensures) at c.in-Some.ensures.place)) h)
    c.play_at.ensures.err

pub returns-in-None-clause-err : goal.returns-in-None-clause-err
returns-in-None-clause-err g c = absent_stops _ c.args.deltas.now.items c.args.event.now c.args.number (sym (rw (c.as_slice.ensures.value, c.gateway.ensures) at c.in-None.ensures.place))
