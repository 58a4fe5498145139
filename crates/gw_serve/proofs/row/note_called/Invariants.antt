-- What was noted, and what is left: the next numbers of datagrams and of calls, and room for them.
use Rattle.std.proofs.Common.{◌≡◌, ◌+◌, ◌<◌, ◌≤◌, ◌^◌, ◌++◌, drop, length, map, take, vec_len, vec_capacity}
use Rattle.std.specs.Vec.Iter.{into_iter_items}
use Rattle.gw_serve.specs.declared.row.Called.{Called}
use Rattle.gw_serve.specs.inner.Rows.{row_numbers_from}
use Rattle.gw_serve.proofs.row.note_called.Given as goal

abbrev pub invariant-loop-answer : goal.invariant-loop-answer
invariant-loop-answer l = record {
  datagrams : map (λ (c : Called). c.taken.datagram) l.called.items ++ take (length (into_iter_items l.answer-iterator)) (drop (vec_len l.called) l.numbers)
      ≡ map (λ (c : Called). c.taken.datagram) l.fn.called.items ++ take (length l.fn.answers.items) (drop (vec_len l.fn.called) l.numbers);
  steps : map (λ (c : Called). c.taken.step) l.called.items ++ row_numbers_from l.step (length (into_iter_items l.answer-iterator))
      ≡ map (λ (c : Called). c.taken.step) l.fn.called.items ++ row_numbers_from l.first (length l.fn.answers.items);
  many : vec_len l.called + length (into_iter_items l.answer-iterator) ≡ vec_len l.fn.called + length l.fn.answers.items;
  same : vec_capacity l.called ≡ vec_capacity l.fn.called;
  room : vec_len l.called + length (into_iter_items l.answer-iterator) ≤ vec_capacity l.called;
  few : vec_len l.called + length (into_iter_items l.answer-iterator) ≤ length l.numbers;
  numbers : l.step + length (into_iter_items l.answer-iterator) < 2 ^ 64;
}
