-- The operations of a stamp, one after the other.
use Rattle.std.proofs.Common.{◌≡◌, ℕ, suc, ◌+◌, ◌^◌, min, ◌-◌, List, sym, ap, ◌∙◌, arith}
use Rattle.std.specs.List.{filter_map}
use Rattle.rep_model.specs.Limits.{joined, above_a_gap}
use Rattle.rep_plain.specs.declared.ranges.Range.{Range}
use Rattle.rep_shared.specs.Steps.{capped}
use Rattle.rep_plain.specs.inner.Steps.{range_numbers, above_gaps}
use Rattle.rep_shared.proofs.Numbers.{capped_sum}

-- one origin more
pub capped_more : (ranges : List Range) (n a b r : ℕ) → a ≡ capped (above_a_gap (joined (filter_map (range_numbers (n + 1)) ranges))) → b ≡ capped (above_gaps ranges n) → r ≡ min (a + b) (2 ^ 64 - 1) → r ≡ capped (above_gaps ranges (n + 1))
unfolding above_gaps
capped_more ranges n a b r ea eb er =
    let x = above_a_gap (joined (filter_map (range_numbers (n + 1)) ranges)) in
    let y = above_gaps ranges n in
    er ∙ (λ i. min (ea i + eb i) (2 ^ 64 - 1)) ∙ capped_sum x y ∙ ap capped (sym (ap (λ m. above_gaps ranges m) (let e : n + 1 ≡ suc n = omega arith in e) ∙ ap (λ m. above_a_gap (joined (filter_map (range_numbers m) ranges)) + y) (let e : suc n ≡ n + 1 = omega arith in e)))
