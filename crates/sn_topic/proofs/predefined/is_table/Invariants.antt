use Rattle.std.proofs.Common.{◌≡◌, length}
use Rattle.sn_topic.specs.Table.{is_table}
use Rattle.sn_topic.proofs.predefined.is_table.Given as goal

-- the entries that are left decide
abbrev pub invariant-loop-left : goal.invariant-loop-left
invariant-loop-left l = is_table l.entries ≡ is_table l.left

abbrev pub decreases-loop-left : goal.decreases-loop-left
decreases-loop-left l = length l.left
