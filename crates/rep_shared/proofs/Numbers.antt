-- Numbers at the end of their type.
use Rattle.std.proofs.Common.{◌≡◌, ℕ, ◌+◌, ◌^◌, min, ◌-◌, ◌<◌, Some, None, Option, sym, ap, ◌∙◌, arith, true, false, if◌then◌else◌, nat_lt}
use Rattle.std.specs.Option.{SomeIff}
use Rattle.std.proofs.lemmas.Bool.Decides.{nat_tests}
use Rattle.rep_model.specs.Fresh.{one_more}

-- counts that are cut off at the end of their type add up
pub capped_sum : (a b : ℕ) → min (min a (2 ^ 64 - 1) + min b (2 ^ 64 - 1)) (2 ^ 64 - 1) ≡ min (a + b) (2 ^ 64 - 1)
capped_sum a b = omega arith

-- the number after, where there is one
pub next_one : (n : ℕ) (r : Option ℕ) → SomeIff r (n + 1 < 2 ^ 64) (n + 1) → r ≡ one_more n
next_one n None h = ap (λ b. if b then Some (n + 1) else None) (sym (let e : nat_lt (n + 1) (2 ^ 64) ≡ false = grind (arith, nat_tests, h) in e))
next_one n (Some x) h = ap Some h.1 ∙ ap (λ b. if b then Some (n + 1) else None) (sym (let e : nat_lt (n + 1) (2 ^ 64) ≡ true = grind (arith, nat_tests, h.0) in e))
