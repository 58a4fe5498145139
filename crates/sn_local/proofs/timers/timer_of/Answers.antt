use Rattle.std.proofs.Common.{◌∙◌, sym, ap, Some}
use Rattle.sn_local.proofs.TimerPlaces.{found, absent}
use Rattle.sn_local.proofs.timers.timer_of.Goals as goal

pub returns-in-Ok : goal.returns-in-Ok
returns-in-Ok c = sym (found c.args.timers.now c.in-Ok.at c.args.client.now c.index-timers-at.result c.in-Ok.ensures.1 ∙ ap Some (sym c.index-timers-at.is))

pub returns-in-Err : goal.returns-in-Err
returns-in-Err c = sym (absent c.args.timers.now c.in-Err.field-0 c.args.client.now c.in-Err.ensures.1)
