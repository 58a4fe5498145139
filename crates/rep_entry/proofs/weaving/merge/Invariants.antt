use Rattle.std.proofs.Common.{◌≡◌, ◌+◌, ◌≤◌, ◌++◌, vec_len, vec_capacity}
use Rattle.std.specs.VecDeque.{deque_len}
use Rattle.rep_log.specs.Mail.{weave}
use Rattle.rep_entry.proofs.weaving.merge.Given as goal

abbrev pub invariant-loop-put : goal.invariant-loop-put
invariant-loop-put l = (l.into.items ++ weave l.old.items l.news.items ≡ weave l.fn.old.items l.fn.news.items) × (vec_len l.into + (deque_len l.old + deque_len l.news) ≤ vec_capacity l.into)

abbrev pub decreases-loop-put : goal.decreases-loop-put
decreases-loop-put l = deque_len l.old
