use Rattle.std.proofs.Common.{◌≡◌, ◌+◌, ◌≤◌, ◌++◌, vec_len, vec_capacity}
use Rattle.std.specs.VecDeque.{deque_len}
use Rattle.rep_log.specs.Mail.{front_before, rest_from}
use Rattle.rep_entry.proofs.weaving.move_before.Given as goal

abbrev pub invariant-loop-news : goal.invariant-loop-news
invariant-loop-news l = record {
  moved : l.into.items ++ front_before l.put l.news.items ≡ l.fn.into.items ++ front_before l.put l.fn.news.items;
  left : rest_from l.put l.news.items ≡ rest_from l.put l.fn.news.items;
  len : vec_len l.into + deque_len l.news ≡ vec_len l.fn.into + deque_len l.fn.news;
  room : vec_capacity l.fn.into ≤ vec_capacity l.into;
}

abbrev pub decreases-loop-news : goal.decreases-loop-news
decreases-loop-news l = deque_len l.news
