use Rattle.std.proofs.Common.{◌≡◌, ◌+◌, ◌≤◌, ◌++◌, vec_len, vec_capacity}
use Rattle.std.specs.VecDeque.{deque_len}
use Rattle.rep_entry.proofs.weaving.move_all.Given as goal

abbrev pub invariant-loop-new : goal.invariant-loop-new
invariant-loop-new l = (l.into.items ++ l.news.items ≡ l.fn.into.items ++ l.fn.news.items) × (vec_len l.into + deque_len l.news ≤ vec_capacity l.into)

abbrev pub decreases-loop-new : goal.decreases-loop-new
decreases-loop-new l = deque_len l.news
