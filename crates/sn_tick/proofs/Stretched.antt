-- Only a message that is far before the greatest number has another one far after it.
use Rattle.std.proofs.Common.{◌≡◌, ℕ, ◌-◌, ◌≤◌, ◌==◌, Bool, true, false, ◌&&◌, ◌||◌, not, nat_le, max, List, [], ◌∷◌, Option, refl, sym, ap, true≢false, arith}
use Rattle.std.specs.List.{list_any}
use Rattle.std.proofs.lemmas.Bool.{and_parts}
use Rattle.std.proofs.lemmas.Bool.Decides.{nat_tests}
use Rattle.rep_op.specs.declared.op.Put.{Put}
use Rattle.sn_tick.specs.Expiry.{is_expired, is_far_after, is_left_behind, is_stretched}
use Rattle.sn_tick.specs.inner.Greatest.{greatest_from}

further : (n m : ℕ) → n ≤ max m n
further n m = omega arith

onward : (n m k : ℕ) → n ≤ m → m ≤ k → n ≤ k
onward n m k h j = omega (arith, h, j)

-- the greatest number is at least the first one
grows : (n : ℕ) (pending : List Put) → n ≤ greatest_from n pending
grows n [] = omega arith
grows n (put ∷ rest) = onward n (max put.seq n) (greatest_from (max put.seq n) rest) (further n put.seq) (grows (max put.seq n) rest)

above : (n m : ℕ) → n ≤ max n m
above n m = omega arith

farther : (n m first : ℕ) → n ≤ m → nat_le 1024 (n - first) ≡ true → nat_le 1024 (m - first) ≡ true
farther n m first h k = grind (arith, nat_tests, h, k)

-- what has a message far after it is far before the greatest number
reaches_by : (first put : Put) (n : ℕ) (rest : List Put) (b : Bool) → is_far_after first put ≡ b → (b || list_any (is_far_after first) rest) ≡ true
    → (list_any (is_far_after first) rest ≡ true → nat_le 1024 (greatest_from (max put.seq n) rest - first.seq) ≡ true)
    → nat_le 1024 (greatest_from (max put.seq n) rest - first.seq) ≡ true
reaches_by first put n rest true is e later =
    farther put.seq (greatest_from (max put.seq n) rest) first.seq
    (onward put.seq (max put.seq n) (greatest_from (max put.seq n) rest) (above put.seq n) (grows (max put.seq n) rest))
    (and_parts (first.origin == put.origin) (nat_le 1024 (put.seq - first.seq)) is).1
reaches_by first put n rest false is e later = later e

reaches : (first : Put) (n : ℕ) (pending : List Put) → list_any (is_far_after first) pending ≡ true → nat_le 1024 (greatest_from n pending - first.seq) ≡ true
reaches first n [] e = absurd (true≢false (sym e))
reaches first n (put ∷ rest) e = reaches_by first put n rest (is_far_after first put) refl e (reaches first (max put.seq n) rest)

and_none : (b : Bool) → (b && false) ≡ false
and_none true = refl
and_none false = refl

only_behind : (a e far : Bool) → (far ≡ true → a ≡ true) → (a && (not e && far)) ≡ (not e && far)
only_behind a true far h = and_none a
only_behind a false true h = ap (λ b. b && true) (h refl)
only_behind a false false h = and_none a

module _ (now : ℕ) (name : Option (ℕ × ℕ)) (pending : List Put) where
  each : (xs : List Put) → list_any (λ first. nat_le 1024 (greatest_from 0 pending - first.seq) && is_left_behind now name pending first) xs
      ≡ list_any (is_left_behind now name pending) xs
  each [] = refl
  each (first ∷ rest) = λ i. pointed first i || each rest i
    where
      pointed : (first : Put) → (nat_le 1024 (greatest_from 0 pending - first.seq) && is_left_behind now name pending first) ≡ is_left_behind now name pending first
      pointed first =
          only_behind (nat_le 1024 (greatest_from 0 pending - first.seq)) (is_expired now name first) (list_any (is_far_after first) pending) (reaches first 0 pending)

  -- whether a message stays that another one is far after, of which only those are asked that are far before the greatest number
  pub stretched_by : list_any (λ first. nat_le 1024 (greatest_from 0 pending - first.seq) && is_left_behind now name pending first) pending ≡ is_stretched now name pending
  stretched_by = each pending
