use Rattle.std.proofs.Common.{refl, ap, ◌∙◌}
use Rattle.rep_model.specs.Limits.{above_a_gap}
use Rattle.rep_shared.specs.Steps.{capped}
use Rattle.rep_plain.specs.inner.Steps.{above_gaps}
use Rattle.rep_plain.proofs.Prefixes.{capped_more}
use Rattle.rep_plain.proofs.ranges.exceptions.Goals as goal

pub loop-below-init : goal.loop-below-init
unfolding above_gaps
loop-below-init c = refl

pub loop-below-preserved : goal.loop-below-preserved
loop-below-preserved c =
    capped_more c.args.ranges.now c.loop-below.below c.above_gap.result c.loop-below.count _
    (c.above_gap.ensures ∙ ap (λ rs. capped (above_a_gap rs)) (c.as_slice.ensures.value ∙ c.in_ok-numbers.ensures))
    c.loop-below.invariant c.saturating_add-count.ensures
