use Rattle.std.proofs.Common.{◌<◌, ℕ, subst}
use Rattle.br_core.specs.inner.Works.{worked}
use Rattle.br_core.specs.Steps.{lanes_along}
use Rattle.br_core.proofs.Seats.{next-lane}
use Rattle.br_core.proofs.steps.all_work.Goals as goal

pub loop-place-preserved : goal.loop-place-preserved
loop-place-preserved c =
    let there = subst (λ (n : ℕ). c.loop-place.place < n) c.len-place-end.ensures c.loop-place-test.true in
    next-lane c.args.settings.now.lanes c.loop-place.place c.args.settings.now (λ place. worked c.args.work place) c.loop-place.bridge c.work_at.new.bridge
    (lanes_along c.args.settings.now.lanes 0 c.args.settings.now (λ place. worked c.args.work place) c.args.bridge.now) there (c.in_ok-work_at.ensures) c.loop-place.invariant
