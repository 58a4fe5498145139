-- What was put in and what is left make the whole, and there is room for what is left.
use Rattle.std.proofs.Common.{◌≡◌, ◌+◌, ◌<◌, ◌≤◌, ◌^◌, ◌++◌, length, map, vec_len, vec_capacity}
use Rattle.std.specs.Vec.Iter.{into_iter_items, into_iter_len}
use Rattle.gw_answer.specs.Answers.{said}
use Rattle.gw_shift.specs.Passes.{held_from}
use Rattle.gw_shift.specs.inner.Passes.{calls_of}
use Rattle.gw_shift.proofs.row.row_of.Given as goal

abbrev pub invariant-loop-reply : goal.invariant-loop-reply
invariant-loop-reply l = record {
  entries : l.row.entries.items ++ calls_of l.place (into_iter_items l.left) (into_iter_items l.reply-iterator) ≡ calls_of l.place l.fn.shares.items l.fn.replies.items;
  held : l.row.held.items ++ held_from l.next (into_iter_items l.left) (into_iter_items l.reply-iterator) ≡ held_from l.number l.fn.shares.items l.fn.replies.items;
  answers : map said l.row.answers.items ++ into_iter_items l.reply-iterator ≡ l.fn.replies.items;
  few : length (into_iter_items l.reply-iterator) ≤ length (into_iter_items l.left);
  shares : into_iter_len l.left ≡ length (into_iter_items l.left);
  entries_many : vec_len l.row.entries + length (into_iter_items l.reply-iterator) ≡ length l.fn.replies.items;
  held_many : vec_len l.row.held + length (into_iter_items l.reply-iterator) ≡ length l.fn.replies.items;
  answers_many : vec_len l.row.answers + length (into_iter_items l.reply-iterator) ≡ length l.fn.replies.items;
  entries_room : vec_len l.row.entries + length (into_iter_items l.reply-iterator) ≤ vec_capacity l.row.entries;
  held_room : vec_len l.row.held + length (into_iter_items l.reply-iterator) ≤ vec_capacity l.row.held;
  answers_room : vec_len l.row.answers + length (into_iter_items l.reply-iterator) ≤ vec_capacity l.row.answers;
  numbers : l.next + length (into_iter_items l.reply-iterator) < 2 ^ 64;
}
