use Rattle.std.proofs.Common.{◌≡◌, ◌+◌, ◌≤◌, ◌++◌, length, map, vec_len, vec_capacity}
use Rattle.std.specs.Vec.Iter.{into_iter_items}
use Rattle.gw_serve.specs.declared.row.Called.{Called}
use Rattle.gw_serve.proofs.row.tell_all.Given as goal

-- what was noted, and the rest
abbrev pub invariant-loop-one : goal.invariant-loop-one
invariant-loop-one g l =
    (l.taken.items ++ map (λ (c : Called). c.taken) (into_iter_items l.one-iterator) ≡ l.fn.taken.items ++ map (λ (c : Called). c.taken) l.fn.called.items)
    × (vec_len l.taken + length (into_iter_items l.one-iterator) ≤ vec_capacity l.taken)
