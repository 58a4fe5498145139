use Rattle.std.proofs.Common.{arith}
use Rattle.std.proofs.lemmas.Grind.{common_steps}
use Rattle.sn_topic.proofs.Cuts.{stand_alone-next}
use Rattle.sn_topic.proofs.level.wildcards_stand_alone.Goals as goal

pub returns-then-not-asks_for_one : goal.returns-then-not-asks_for_one
returns-then-not-asks_for_one c =
    let next = stand_alone-next c.first_level.result.0.now c.in-Some.rest.now in
    grind (arith, common_steps)
