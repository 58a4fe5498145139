use Rattle.std.proofs.Common.{◌≡◌, ◌++◌}
use Rattle.std.specs.Vec.Iter.{into_iter_items}
use Rattle.sn_plan.proofs.draft.extend_puts.Given as goal

abbrev pub invariant-loop-put : goal.invariant-loop-put
invariant-loop-put l = l.puts.items ++ into_iter_items l.put-iterator ≡ l.fn.puts.items ++ l.fn.more.items
