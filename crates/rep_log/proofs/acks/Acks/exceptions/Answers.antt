use Rattle.std.proofs.Common.{◌≡◌, ◌-◌, refl, sym, arith, ap, ◌∙◌}
use Rattle.rep_model.specs.Limits.{above_a_gap}
use Rattle.rep_shared.specs.Steps.{capped}
use Rattle.rep_log.specs.Origins.{origins_above_gaps}
use Rattle.rep_log.proofs.Acknowledged.{above_more}
use Rattle.rep_log.proofs.Greatest.{above_last}
use Rattle.rep_log.proofs.acks.Acks.exceptions.Goals as goal

pub loop-below-init : goal.loop-below-init
unfolding origins_above_gaps
loop-below-init c = refl

pub loop-below-preserved : goal.loop-below-preserved
loop-below-preserved c =
    above_more c.args.self.now c.loop-below.below c.above_gap.result c.loop-below.count _
    (c.above_gap.ensures ∙ ap (λ rs. capped (above_a_gap rs)) c.numbers.ensures.numbers)
    c.loop-below.invariant c.saturating_add-count.ensures

pub returns : goal.returns
returns c =
    let last = c.last_origin-below-end.result in
    let all = above_last c.args.self.now last (255 - last) 255 (omega (arith, c.last_origin-below-end.type_inv)) c.last_origin-below-end.ensures in
    let done : c.loop-below.below ≡ last = omega (arith, c.loop-below-test.false, c.loop-below.auto.below-end) in
    c.loop-below.invariant ∙ ap (λ n. capped (origins_above_gaps c.args.self.now n)) done ∙ ap capped (sym all)
