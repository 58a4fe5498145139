use Rattle.std.specs.List.{AllAdjacentBelow}
use Rattle.rep_op.specs.Orders.{ShareName}
use Rattle.rep_ops.proofs.join.has_twice.Given as goal

abbrev pub invariant-loop-i : goal.invariant-loop-i
invariant-loop-i l = AllAdjacentBelow (λ a b. ¬ (ShareName a b)) l.ops l.i
