use Rattle.std.specs.Ordering.{is_lt, nat_cmp}
use Rattle.std.proofs.Common.{rules}
use Rattle.std.proofs.lemmas.Cmp.{nat_cmp_total}
use Rattle.std.proofs.lemmas.List.Sorted.{ranks_by, answers_always}
use Rattle.br_core.specs.declared.item.Item.{Item}
use Rattle.br_spool.proofs.reading.sort.Goals as goal

pub returns-clause-sorted : goal.returns-clause-sorted
returns-clause-sorted c =
    c.sort_unstable_by.ensures.sorted (λ (a b : Item). is_lt (nat_cmp a.number b.number)) (ranks_by nat_cmp_total (λ (a : Item). a.number)) (answers_always _ _ _ (λ f a r g h. search rules))
