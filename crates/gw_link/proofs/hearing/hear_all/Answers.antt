use Rattle.gw_link.specs.Adding.{is_of_link}
use Rattle.gw_link.proofs.Adding.{adds_more}
use Rattle.gw_link.proofs.hearing.hear_all.Goals as goal

pub returns-in-Err-heard : goal.returns-in-Err-heard
returns-in-Err-heard g c = adds_more is_of_link _ _ _ c.loop.invariant c.hear_row-after.ensures

pub loop-preserved : goal.loop-preserved
loop-preserved g c = adds_more is_of_link _ _ _ c.loop.invariant c.hear_row-after.ensures
