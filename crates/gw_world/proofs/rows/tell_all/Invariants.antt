-- What is told so far, and what is left.
use Rattle.std.proofs.Common.{◌≡◌, ◌++◌, map}
use Rattle.std.specs.List.{AllByRecursion}
use Rattle.std.specs.Vec.Iter.{into_iter_items}
use Rattle.gw_answer.specs.Answers.{said}
use Rattle.gw_world.specs.inner.Events.{IsFed}
use Rattle.gw_world.proofs.rows.tell_all.Given as goal

abbrev pub invariant-loop-reply : goal.invariant-loop-reply
invariant-loop-reply l =
    (map said l.answers.items ++ into_iter_items l.reply-iterator ≡ map said l.fn.answers.items ++ l.fn.replies.items)
    × (AllByRecursion IsFed (into_iter_items l.reply-iterator) → AllByRecursion IsFed l.fn.replies.items)
