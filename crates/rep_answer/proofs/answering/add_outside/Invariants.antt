use Rattle.std.proofs.Common.{◌≡◌, ◌++◌, map, drop}
use Rattle.rep_answer.specs.inner.Steps.{outside, outside_from, ack_of_range}
use Rattle.rep_answer.proofs.answering.add_outside.Given as goal

-- what is left of the rest leads where all leads
abbrev pub invariant-loop-covered : goal.invariant-loop-covered
invariant-loop-covered l =
    l.left.items ++ map (ack_of_range l.client l.origin) (outside_from l.rest (drop l.covered-index l.ranges)) ≡ l.fn.left.items ++ map (ack_of_range l.client l.origin) (outside l.fn.range l.ranges)
