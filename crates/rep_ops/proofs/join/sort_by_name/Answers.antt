use Rattle.std.specs.Ordering.{is_lt}
use Rattle.std.proofs.Common.{rules}
use Rattle.std.proofs.lemmas.List.Sorted.{ranks_by, answers_always}
use Rattle.rep_op.specs.Orders.{name_cmp}
use Rattle.rep_op.proofs.Names.{name_total}
use Rattle.rep_ops.proofs.join.sort_by_name.Goals as goal

pub returns-clause-sorted : goal.returns-clause-sorted
returns-clause-sorted c =
    c.sort_unstable_by.ensures.sorted (λ a b. is_lt (name_cmp a b)) (ranks_by name_total (λ a. a)) (answers_always _ _ _ (λ f a r g h. search rules))
