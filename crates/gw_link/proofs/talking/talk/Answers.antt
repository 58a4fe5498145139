use Rattle.gw_link.specs.Adding.{is_of_link}
use Rattle.gw_link.proofs.Adding.{adds_more}
use Rattle.gw_link.proofs.talking.talk.Goals as goal

pub returns-in-Err : goal.returns-in-Err
returns-in-Err g c = adds_more is_of_link _ _ _ c.loop.invariant c.take_turn-after.ensures

pub loop-preserved : goal.loop-preserved
loop-preserved g c = adds_more is_of_link _ _ _ c.loop.invariant c.take_turn-after.ensures
