use Rattle.std.proofs.Common.{◌≡◌, drop}
use Rattle.br_core.specs.inner.Works.{worked}
use Rattle.br_core.specs.Steps.{lanes_along}
use Rattle.br_core.proofs.steps.all_work.Given as goal

abbrev pub invariant-loop-place : goal.invariant-loop-place
invariant-loop-place l =
    lanes_along (drop l.place l.settings.lanes) l.place l.settings (λ place. worked l.work place) l.bridge
    ≡ lanes_along l.settings.lanes 0 l.settings (λ place. worked l.work place) l.fn.bridge
