use Rattle.gw_run.proofs.Clock.{clock_gave, clock_ended}
use Rattle.gw_run.proofs.ticking.tick_out.Goals as goal

pub returns-in-Ok-false : goal.returns-in-Ok-false
returns-in-Ok-false g c = clock_gave _ _ _ _ _ c.in-Ok-false.is c.loop.invariant c.tick_once-after.ensures

pub returns-in-Err : goal.returns-in-Err
returns-in-Err g c = clock_ended _ _ _ _ _ c.in-Err.is c.loop.invariant c.tick_once-after.ensures

pub loop-preserved : goal.loop-preserved
loop-preserved g c = clock_gave _ _ _ _ _ c.in-Ok-true.is c.loop.invariant c.tick_once-after.ensures
