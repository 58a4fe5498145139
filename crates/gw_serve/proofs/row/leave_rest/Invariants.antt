use Rattle.std.proofs.Common.{◌≡◌, ◌+◌, ◌-◌, ◌≤◌, ◌++◌, drop, length, vec_len, vec_capacity}
use Rattle.gw_serve.proofs.row.leave_rest.Given as goal

-- what was put there, and the rest
abbrev pub invariant-loop-index : goal.invariant-loop-index
invariant-loop-index l =
    (l.left.items ++ drop l.index l.numbers ≡ l.fn.left.items ++ drop l.from l.numbers)
    × (vec_len l.left + (length l.numbers - l.index) ≤ vec_capacity l.left)
