use Rattle.std.proofs.Common.{◌≡◌, length}
use Rattle.sn_topic.specs.Levels.{levels}
use Rattle.br_map.specs.Apart.{overlap}
use Rattle.br_map.proofs.filters.overlap.Given as goal

-- the levels that are left decide
abbrev pub invariant-loop-rest : goal.invariant-loop-rest
invariant-loop-rest l = overlap (levels l.first) (levels l.second) ≡ overlap (levels l.left) (levels l.right)

abbrev pub decreases-loop-rest : goal.decreases-loop-rest
decreases-loop-rest l = length l.left
