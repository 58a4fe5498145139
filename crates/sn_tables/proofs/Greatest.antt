-- the greatest of some numbers, found from the first to the last
use Rattle.std.proofs.Common.{◌≡◌, ℕ, zero, suc, ◌≤◌, ◌⊎◌, inl, inr, List, [], ◌∷◌, fold, max, Option, Some, None, IfSome, refl, subst, arith}
use Rattle.std.proofs.lemmas.Bool.{cases_lt}
use Rattle.std.specs.List.{All, Contains}
use Rattle.sn_tables.specs.Subscriptions.{or_greater, IsGreatest}

-- the greatest of a number so far and some more
record IsGreatestFrom (best : ℕ) (numbers : List ℕ) (greatest : ℕ) : Type 0 where
  above : best ≤ greatest
  among : (best ≡ greatest) ⊎ Contains numbers greatest
  all : All (λ n. n ≤ greatest) numbers

-- one more number before
one_more : (q : ℕ) (qs : List ℕ) (m : ℕ) → Contains qs m → Contains (q ∷ qs) m
one_more q qs m (k, lt, is) = (suc k, omega arith, is)

all_more : (q : ℕ) (qs : List ℕ) (m : ℕ) → q ≤ m → All (λ n. n ≤ m) qs → All (λ n. n ≤ m) (q ∷ qs)
all_more q qs m le all zero d lt = le
all_more q qs m le all (suc k) d lt = all k d (omega arith)

first : (q : ℕ) (qs : List ℕ) → Contains (q ∷ qs) q
first q qs = (zero, omega arith, refl)

-- what is known of one more number before
step : (q : ℕ) (qs : List ℕ) (best m : ℕ) → IsGreatestFrom (max best q) qs m → IsGreatestFrom best (q ∷ qs) m
step q qs best m h = record {
  above = omega (arith, h.above);
  among = elim h.among [
    | inl is ↦ elim (cases_lt best q) [ inr le ↦ inl (omega arith) | inl lt ↦ inr (let same : q ≡ m = omega arith in subst (Contains (q ∷ qs)) same (first q qs)) ]
    | inr c ↦ inr (one_more q qs m c)
  ];
  all = all_more q qs m (omega (arith, h.above)) h.all;
}

greatest_from : (qs : List ℕ) (best : ℕ) → IfSome (fold or_greater (Some best) qs) (IsGreatestFrom best qs)
greatest_from [] best = record { above = omega arith; among = inl refl; all = λ k d lt. absurd (omega arith) }
greatest_from (q ∷ qs) best = some_weaker (fold or_greater (Some (max best q)) qs) (IsGreatestFrom (max best q) qs) (IsGreatestFrom best (q ∷ qs)) (step q qs best) (greatest_from qs (max best q))
  where
    some_weaker : (o : Option ℕ) (P Q : ℕ → Type 0) → ((m : ℕ) → P m → Q m) → IfSome o P → IfSome o Q
    some_weaker None P Q weaker h = tt
    some_weaker (Some m) P Q weaker h = weaker m h

-- a number so far is the first of the list
joined : (q : ℕ) (qs : List ℕ) (m : ℕ) → IsGreatestFrom q qs m → IsGreatest (q ∷ qs) m
joined q qs m h = record {
  among = elim h.among [ inl is ↦ subst (Contains (q ∷ qs)) is (first q qs) | inr c ↦ one_more q qs m c ];
  greatest_of_all = all_more q qs m h.above h.all;
}

-- the fold over some numbers gives the greatest
pub greatest_is : (qs : List ℕ) (o : Option ℕ) → o ≡ fold or_greater None qs → IfSome o (IsGreatest qs)
greatest_is [] o is = rw is tt
greatest_is (q ∷ qs) o is = rw is (weaker (fold or_greater (Some q) qs) (greatest_from qs q))
  where
    weaker : (o : Option ℕ) → IfSome o (IsGreatestFrom q qs) → IfSome o (IsGreatest (q ∷ qs))
    weaker None h = tt
    weaker (Some m) h = joined q qs m h
