use Rattle.std.proofs.Common.{◌≡◌, length}
use Rattle.sn_topic.specs.Levels.{levels, wildcards_stand_alone}
use Rattle.sn_topic.proofs.level.wildcards_stand_alone.Given as goal

-- the levels that are left decide
abbrev pub invariant-loop-rest : goal.invariant-loop-rest
invariant-loop-rest l = wildcards_stand_alone (levels l.octets) ≡ wildcards_stand_alone (levels l.left)

abbrev pub decreases-loop-rest : goal.decreases-loop-rest
decreases-loop-rest l = length l.left
