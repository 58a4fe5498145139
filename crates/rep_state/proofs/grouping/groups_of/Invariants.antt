use Rattle.std.proofs.Common.{T, take}
use Rattle.std.specs.FinMap.{is_sorted}
use Rattle.rep_op.specs.Orders.{client_cmp}
use Rattle.rep_state.specs.Tables.{by_client}
use Rattle.rep_state.specs.inner.Groups.{AreGroups}
use Rattle.rep_state.proofs.grouping.groups_of.Given as goal

abbrev pub invariant-loop-op : goal.invariant-loop-op
invariant-loop-op l = AreGroups (by_client l.table.entries) (take l.op-index l.ops) l.groups.items × T (is_sorted client_cmp l.groups.items)
