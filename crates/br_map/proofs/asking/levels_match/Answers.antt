use Rattle.std.proofs.Common.{[], arith}
use Rattle.std.proofs.lemmas.Grind.{common_steps}
use Rattle.sn_topic.specs.Levels.{levels}
use Rattle.sn_topic.proofs.Agreement.{match_short, match_next, match_end, levels_head}
use Rattle.br_map.proofs.asking.levels_match.Goals as goal

pub returns-else-is_none : goal.returns-else-is_none
returns-else-is_none c =
    let short = match_short c.first_level.result.0.now c.first_level-in-loop-next_asked.result.0.now in
    grind (arith, common_steps)

pub returns-then-not-level_agrees : goal.returns-then-not-level_agrees
returns-then-not-level_agrees c =
    let head = levels_head c.first_level-in-loop-next_asked.result.1 c.loop-next_asked.topic_left.now c.first_level-in-loop-next_asked.result.0.now c.first_level-in-loop-next_asked.ensures in
    let next = match_next c.first_level.result.0.now c.in-Some.next_asked.now c.first_level-in-loop-next_asked.result.0.now head.0 in
    grind (arith, common_steps)

pub returns-in_default-more_given : goal.returns-in_default-more_given
returns-in_default-more_given c =
    let end = match_end c.in-Some.next_asked.now in
    let next = match_next c.first_level.result.0.now c.in-Some.next_asked.now c.first_level-in-loop-next_asked.result.0.now [] in
    grind (arith, common_steps)

pub loop-next_asked-preserved : goal.loop-next_asked-preserved
loop-next_asked-preserved c =
    let next = match_next c.first_level.result.0.now c.in-Some.next_asked.now c.first_level-in-loop-next_asked.result.0.now (levels c.in-Some-more_given.next_given.now) in
    grind (arith, common_steps)
