use Rattle.std.proofs.Common.{arith}
use Rattle.std.proofs.lemmas.Grind.{common_steps}
use Rattle.br_map.proofs.Meeting.{overlap_last, overlap_next, overlap_short}
use Rattle.br_map.proofs.filters.overlap.Goals as goal

pub returns-in_default : goal.returns-in_default
returns-in_default c =
    let last = overlap_last c.first_level.result.0.now c.first_level-in-loop-rest.result.0.now c.loop-rest.right.now c.first_level-in-loop-rest.result.1 c.first_level-in-loop-rest.ensures in
    grind (arith, common_steps)

pub returns-then-levels_meet : goal.returns-then-levels_meet
returns-then-levels_meet c =
    let short = overlap_short c.first_level.result.0.now c.in-Some.rest.now c.first_level-in-loop-rest.result.0.now in
    grind (arith, common_steps)

pub returns-else-levels_meet : goal.returns-else-levels_meet
returns-else-levels_meet c =
    let short = overlap_short c.first_level.result.0.now c.in-Some.rest.now c.first_level-in-loop-rest.result.0.now in
    grind (arith, common_steps)

pub returns-then-not-levels_meet : goal.returns-then-not-levels_meet
returns-then-not-levels_meet c =
    let next = overlap_next c.first_level.result.0.now c.in-Some.rest.now c.first_level-in-loop-rest.result.0.now c.in-Some-more_other.rest_other.now in
    grind (arith, common_steps)

pub loop-rest-preserved : goal.loop-rest-preserved
loop-rest-preserved c =
    let next = overlap_next c.first_level.result.0.now c.in-Some.rest.now c.first_level-in-loop-rest.result.0.now c.in-Some-more_other.rest_other.now in
    grind (arith, common_steps)
