use Rattle.std.proofs.Common.{◌≡◌, ◌∙◌, List, ℕ, take, arith, rules, nat_le, sym, subst}
use Rattle.std.proofs.lemmas.Fn.{always_returns_same}
use Rattle.rep_model.specs.Ranges.{AreApart}
use Rattle.rep_answer.specs.inner.Steps.{beginning_by}
use Rattle.rep_answer.proofs.Reaching.{begun_first, take_beginning, apart_beginning}
use Rattle.rep_answer.proofs.cover.beginning_by.Goals as goal

-- the closure tells whether a range begins at the number or before it
taken : (c : goal.After-result-1) → take c.partition_point-at.result c.args.ranges.now ≡ beginning_by c.args.number c.args.ranges.now
taken c =
    let by_begin = c.partition_point-at.ensures.partitioned (λ r. nat_le r.0 c.args.number) (always_returns_same _ (λ a r. r ≡ nat_le a.0.now.0 c.args.number) _ (λ a r g called. search rules)) (begun_first c.args.number c.args.ranges.now c.requires) in
    take_beginning c.args.number c.args.ranges.now c.partition_point-at.result c.partition_point-at.ensures.bound (λ j d lt. by_begin.0 j d (omega arith) lt) (λ j d from lt. by_begin.1 j d from lt)

pub returns-clause-ranges : goal.returns-clause-ranges
returns-clause-ranges c = c.split_at.ensures.front ∙ taken c

pub returns-clause-apart : goal.returns-clause-apart
returns-clause-apart c = subst (λ (rs : List (ℕ × ℕ)). AreApart rs) (sym (c.split_at.ensures.front ∙ taken c)) (apart_beginning c.args.number 0 c.args.ranges.now c.requires)
