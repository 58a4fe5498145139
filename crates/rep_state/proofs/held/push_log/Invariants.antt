use Rattle.std.proofs.Common.{◌≡◌, ◌++◌, take}
use Rattle.rep_log.specs.Kept.{of_log}
use Rattle.rep_state.proofs.held.push_log.Given as goal

abbrev pub invariant-loop-op : goal.invariant-loop-op
invariant-loop-op l = l.kept.items ≡ l.fn.kept.items ++ of_log l.client (take l.op-index l.ops)
