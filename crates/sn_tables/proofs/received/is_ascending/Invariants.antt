use Rattle.std.proofs.Common.{◌≡◌, length}
use Rattle.sn_tables.specs.Tables.{is_ascending}
use Rattle.std.specs.Ordering.{nat_cmp}
use Rattle.sn_tables.proofs.received.is_ascending.Given as goal

-- what is left decides
abbrev pub invariant-loop-left : goal.invariant-loop-left
invariant-loop-left l = is_ascending nat_cmp l.ids ≡ is_ascending nat_cmp l.left

abbrev pub decreases-loop-left : goal.decreases-loop-left
decreases-loop-left l = length l.left
