use Rattle.std.proofs.Common.{◌∙◌, arith}
use Rattle.sn_local.proofs.TimerPlaces.{set_is, insert_is, timed_timers, chosen}
use Rattle.sn_local.proofs.timers.set_timer.Goals as goal

-- the client has a timer, which is written over
pub returns-in-Ok-clause-items : goal.returns-in-Ok-clause-items
returns-in-Ok-clause-items c = set_is c.args.timers.now.items c.in-Ok.at c.args.timer (rw c.as_slice.ensures.value at c.in-Ok.ensures.1)

pub returns-in-Ok-clause-order : goal.returns-in-Ok-clause-order
returns-in-Ok-clause-order c = timed_timers c.args.timer c.args.timers.now.items _ (returns-in-Ok-clause-items c) c.requires.order

-- the client has none, and there is room for it
pub returns-in-Err-clause-items : goal.returns-in-Err-clause-items
returns-in-Err-clause-items c =
    chosen _ _ _ _ (c.insert.ensures.succeeds (omega (arith, c.requires.room))) c.insert.ensures.items
    ∙ insert_is c.args.timers.now.items c.in-Err.at c.args.timer (rw c.as_slice.ensures.value at c.in-Err.ensures.1)

pub returns-in-Err-clause-order : goal.returns-in-Err-clause-order
returns-in-Err-clause-order c = timed_timers c.args.timer c.args.timers.now.items _ (returns-in-Err-clause-items c) c.requires.order
