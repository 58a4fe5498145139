use Rattle.std.proofs.Common.{◌≡◌, length}
use Rattle.sn_topic.specs.Levels.{levels}
use Rattle.sn_topic.specs.Matching.{levels_match}
use Rattle.br_map.proofs.asking.levels_match.Given as goal

-- the levels that are left decide
abbrev pub invariant-loop-next_asked : goal.invariant-loop-next_asked
invariant-loop-next_asked l = levels_match (levels l.filter) (levels l.topic) ≡ levels_match (levels l.filter_left) (levels l.topic_left)

abbrev pub decreases-loop-next_asked : goal.decreases-loop-next_asked
decreases-loop-next_asked l = length l.filter_left
