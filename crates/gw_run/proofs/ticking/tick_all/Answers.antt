use Rattle.std.proofs.Common.{◌≡◌, ◌∙◌, Some, None, refl, sym}
use Rattle.gw_run.proofs.Clock.{clock_none, clock_later, clock_goes_on}
use Rattle.gw_run.proofs.ticking.tick_all.Goals as goal

pub loop-init : goal.loop-init
loop-init g c = clock_none _ _ refl

pub returns-then-ne : goal.returns-then-ne
returns-then-ne g c = c.loop.invariant

pub returns-then-is_some : goal.returns-then-is_some
returns-then-is_some g c = clock_later _ _ _ _ c.loop.invariant c.tick_in_turn-after.ensures

pub loop-preserved : goal.loop-preserved
loop-preserved g c = clock_goes_on _ _ _ _ (sym c.is_some.ensures ∙ c.if-is_some.false) c.loop.invariant c.tick_in_turn-after.ensures
