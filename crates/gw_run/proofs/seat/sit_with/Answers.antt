use Rattle.gw_link.specs.Adding.{is_of_link}
use Rattle.gw_link.proofs.Adding.{adds_more}
use Rattle.gw_run.proofs.seat.sit_with.Goals as goal

pub loop-preserved-in-Full : goal.loop-preserved-in-Full
loop-preserved-in-Full g c = adds_more is_of_link _ _ _ c.loop.invariant c.talk_at-after.ensures

pub loop-preserved : goal.loop-preserved
loop-preserved g c = adds_more is_of_link _ _ _ c.loop.invariant c.talk_at-after.ensures

pub returns-in-Memory : goal.returns-in-Memory
returns-in-Memory g c = adds_more is_of_link _ _ _ c.loop.invariant c.talk_at-after.ensures
