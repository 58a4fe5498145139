use Rattle.std.proofs.Common.{◌≡◌, ◌∙◌, arith, rules}
use Rattle.std.specs.Prelude.{nat_lt}
use Rattle.std.proofs.lemmas.Fn.{always_returns_same}
use Rattle.rep_answer.proofs.Reaching.{partitioned, drop_ending}
use Rattle.rep_answer.proofs.cover.ending_from.Goals as goal

-- the closure tells whether a range ends before the number
pub returns : goal.returns
returns c =
    let by_end = c.partition_point-at.ensures.partitioned (λ r. nat_lt r.1 c.args.number) (always_returns_same _ (λ a r. r ≡ nat_lt a.0.now.1 c.args.number) _ (λ a r g called. search rules)) (partitioned c.args.number c.args.ranges.now c.requires) in
    c.split_at.ensures.back
    ∙ drop_ending c.args.number c.args.ranges.now c.partition_point-at.result c.partition_point-at.ensures.bound (λ j d lt. by_end.0 j d (omega arith) lt) (λ j d from lt. by_end.1 j d from lt)
