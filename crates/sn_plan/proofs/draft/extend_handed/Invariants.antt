use Rattle.std.proofs.Common.{◌≡◌, ◌++◌}
use Rattle.std.specs.Vec.Iter.{into_iter_items}
use Rattle.sn_plan.proofs.draft.extend_handed.Given as goal

abbrev pub invariant-loop-posted : goal.invariant-loop-posted
invariant-loop-posted l = l.handed.items ++ into_iter_items l.posted-iterator ≡ l.fn.handed.items ++ l.fn.more.items
