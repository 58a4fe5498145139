-- The acknowledgements above a gap, by their ranges and one by one.
use Rattle.std.proofs.Common.{◌≡◌, ℕ, zero, suc, ◌+◌, ◌-◌, ◌≤◌, ◌<◌, Bool, true, false, ◌&&◌, ◌||◌, not, nat_le, if◌then◌else◌, List, [], ◌∷◌, refl, sym, ap, ◌∙◌, subst, true≢false, arith, le-leb, leb-true, leb-false}
use Rattle.std.specs.Prelude.{sum_by}
use Rattle.std.specs.List.{AllByRecursion}
use Rattle.std.proofs.lemmas.Bool.{and_parts, and_from, or_left, or_right}
use Rattle.std.proofs.lemmas.List.Sums.{sum_by-cons}
use Rattle.rep_op.specs.declared.op.Op.{Op}
use Rattle.rep_op.specs.Sets.{is_acknowledged}
use Rattle.rep_model.specs.Ranges.{is_within, in_ranges, AreApartFrom, AreApart}
use Rattle.rep_model.specs.Limits.{size_of, acknowledged, above_a_gap, sum_to, exceptions}
use Rattle.rep_model.proofs.Ranges.{within-parts, in-apart}
use Rattle.rep_model.proofs.Limits.{in-acknowledged, apart-acknowledged}
use Rattle.set_laws.specs.Exceptions.{count_to, all_to, is_above_gap, is_told}

-- ---- counting

by_test : (b : Bool) → (b ≡ true → ⊥) → b ≡ false
by_test true f = absurd (f refl)
by_test false f = refl

-- a test or its opposite
either : (P : Type 0) (b : Bool) → (b ≡ true → P) → (b ≡ false → P) → P
either P true h k = h refl
either P false h k = k refl

one : Bool → ℕ
one b = if b then 1 else 0

count-same : (f g : ℕ → Bool) → ((n : ℕ) → f n ≡ g n) → (b : ℕ) → count_to f b ≡ count_to g b
count-same f g same zero = refl
count-same f g same (suc b) = λ i. (if same (suc b) i then 1 else 0) + count-same f g same b i

count-none : (f : ℕ → Bool) → ((n : ℕ) → f n ≡ false) → (b : ℕ) → count_to f b ≡ 0
count-none f none zero = refl
count-none f none (suc b) = λ i. (if none (suc b) i then 1 else 0) + count-none f none b i

one_or : (a b : Bool) → (a ≡ true → b ≡ false) → (x y z : ℕ) → x ≡ y + z → (if a || b then 1 else 0) + x ≡ ((if a then 1 else 0) + y) + ((if b then 1 else 0) + z)
one_or true true apart x y z e = absurd (true≢false (apart refl))
one_or true false apart x y z e = omega (arith, e)
one_or false true apart x y z e = omega (arith, e)
one_or false false apart x y z e = omega (arith, e)

-- of tests that never both pass
count-or : (f g : ℕ → Bool) → ((n : ℕ) → f n ≡ true → g n ≡ false) → (b : ℕ) → count_to (λ n. f n || g n) b ≡ count_to f b + count_to g b
count-or f g apart zero = refl
count-or f g apart (suc b) = one_or (f (suc b)) (g (suc b)) (apart (suc b)) (count_to (λ n. f n || g n) b) (count_to f b) (count_to g b) (count-or f g apart b)

-- ---- the numbers of a range

plain : (n : ℕ) → 0 + n ≡ n
plain n = omega arith

module _ (l h : ℕ) (from_one : 1 ≤ l) where
  abbrev inside : ℕ → Bool
  inside n = nat_le l n && nat_le n h

  count-up : (b : ℕ) → b ≤ h → count_to inside b ≡ (b + 1) - l
  count-up zero le = omega (arith, from_one)
  count-up (suc b) le =
      let rest : count_to inside b ≡ (b + 1) - l = count-up b (omega (arith, le)) in
      let top : nat_le (suc b) h ≡ true = le-leb (suc b) h le in
      either (count_to inside (suc b) ≡ (suc b + 1) - l) (nat_le l (suc b))
      (λ t. let low : l ≤ suc b = leb-true l (suc b) t in
      (λ i. (if t i && top i then 1 else 0) + rest i) ∙ next l b low)
      (λ f. let high : suc b < l = leb-false l (suc b) f in
      (λ i. (if f i && top i then 1 else 0) + rest i) ∙ none l b high)
    where
      next : (l b : ℕ) → l ≤ suc b → 1 + ((b + 1) - l) ≡ (suc b + 1) - l
      next l b low = omega (arith, low)

      none : (l b : ℕ) → suc b < l → 0 + ((b + 1) - l) ≡ (suc b + 1) - l
      none l b high = omega (arith, high)

  -- beyond its end nothing more is counted
  count-beyond : (b : ℕ) → h ≤ b → count_to inside b ≡ count_to inside h
  count-beyond zero le = let e : h ≡ 0 = omega (arith, le) in ap (count_to inside) (sym e)
  count-beyond (suc b) le =
      either (count_to inside (suc b) ≡ count_to inside h) (nat_le h b)
      (λ t. let below : h ≤ b = leb-true h b t in
      let out : inside (suc b) ≡ false = by_test (inside (suc b)) (λ e. let p = leb-true (suc b) h (and_parts (nat_le l (suc b)) (nat_le (suc b) h) e).1 in omega (arith, p, below)) in
      (λ i. (if out i then 1 else 0) + count-beyond b below i) ∙ plain (count_to inside h))
      (λ f. let above : b < h = leb-false h b f in let e : h ≡ suc b = omega (arith, above, le) in ap (count_to inside) (sym e))

  pub count-range : (b : ℕ) → l ≤ h → h ≤ b → count_to inside b ≡ (h + 1) - l
  count-range b le top = count-beyond b top ∙ count-up h (omega arith)

-- ---- ranges

abbrev AreUpTo : ℕ → List (ℕ × ℕ) → Type 0
AreUpTo b rs = AllByRecursion (λ (r : ℕ × ℕ). r.1 ≤ b) rs

range-apart : (r : ℕ × ℕ) (rest : List (ℕ × ℕ)) → AreApartFrom (r.1 + 2) rest → (n : ℕ) → is_within n r ≡ true → in_ranges n rest ≡ false
range-apart r rest apart n e =
    let top = (within-parts n r e).1 in
    by_test (in_ranges n rest) (λ f. let p = in-apart n (r.1 + 2) rest apart f in omega (arith, p, top))

count-ranges : (k b : ℕ) (rs : List (ℕ × ℕ)) → 1 ≤ k → AreApartFrom k rs → AreUpTo b rs → sum_by size_of rs ≡ count_to (λ n. in_ranges n rs) b
count-ranges k b [] from_one apart up = sym (count-none (λ n. in_ranges n []) (λ n. refl) b)
count-ranges k b (r ∷ rest) from_one apart up =
    sum_by-cons size_of r rest
    ∙ (λ i. sym (count-range r.0 r.1 (omega (arith, from_one, apart.0)) b apart.1 up.0) i + count-ranges (r.1 + 2) b rest (omega arith) apart.2 up.1 i)
    ∙ sym (count-or (λ n. is_within n r) (λ n. in_ranges n rest) (range-apart r rest apart.2) b)

-- ---- gaps

all-there : (f : ℕ → Bool) (n : ℕ) → ((k : ℕ) → 1 ≤ k → k ≤ n → f k ≡ true) → all_to f n ≡ true
all-there f zero h = refl
all-there f (suc n) h = and_from (f (suc n)) (all_to f n) (h (suc n) (omega arith) (omega arith)) (all-there f n (λ k le up. h k le (omega (arith, up))))

and_false : (a b : Bool) → (a ≡ false) → (a && b) ≡ false
and_false true b e = absurd (true≢false e)
and_false false b e = refl

all-missing : (f : ℕ → Bool) (n k : ℕ) → 1 ≤ k → k ≤ n → f k ≡ false → all_to f n ≡ false
all-missing f zero k le up e = absurd (omega (arith, le, up))
all-missing f (suc n) k le up e =
    by_test (f (suc n) && all_to f n) (λ t.
    let parts = and_parts (f (suc n)) (all_to f n) t in
    either ⊥ (nat_le k n)
    (λ below. true≢false (sym parts.1 ∙ all-missing f n k le (leb-true k n below) e))
    (λ above. let same : k ≡ suc n = (let p = leb-false k n above in omega (arith, p, up)) in true≢false (sym parts.0 ∙ ap f (sym same) ∙ e)))

-- whether a number of the ranges stands above a gap
abbrev counted : List (ℕ × ℕ) → ℕ → Bool
counted rs n = in_ranges n rs && not (all_to (λ k. in_ranges k rs) n)

counted-by : (a b : Bool) → (a ≡ true → b ≡ false) → (a && not b) ≡ a
counted-by true b h = ap not (h refl)
counted-by false b h = refl

-- where the first range begins above 1, each number of the ranges stands above a gap
all-counted : (r : ℕ × ℕ) (rest : List (ℕ × ℕ)) → AreApart (r ∷ rest) → 1 < r.0 → (n : ℕ) → counted (r ∷ rest) n ≡ in_ranges n (r ∷ rest)
all-counted r rest apart above n =
    let from : AreApartFrom r.0 (r ∷ rest) = (omega arith, apart.1, apart.2) in
    counted-by (in_ranges n (r ∷ rest)) (all_to (λ k. in_ranges k (r ∷ rest)) n)
    (λ e. let p : r.0 ≤ n = in-apart n r.0 (r ∷ rest) from e in
    all-missing (λ k. in_ranges k (r ∷ rest)) n 1 (omega arith) (omega (arith, p, above))
    (by_test (in_ranges 1 (r ∷ rest)) (λ t. let q : r.0 ≤ 1 = in-apart 1 r.0 (r ∷ rest) from t in omega (arith, q, above))))

or_false : (a b : Bool) → a ≡ false → b ≡ false → (a || b) ≡ false
or_false true b e f = absurd (true≢false e)
or_false false b e f = f

or_second : (a b : Bool) → b ≡ true → (a || b) ≡ true
or_second true b e = refl
or_second false b e = e

or_first : (a b : Bool) → a ≡ true → (a || b) ≡ true
or_first true b e = refl
or_first false b e = absurd (true≢false (sym e))

-- else those of the first do not, and all others do
rest-counted : (r : ℕ × ℕ) (rest : List (ℕ × ℕ)) → AreApart (r ∷ rest) → r.0 ≤ 1 → (n : ℕ) → counted (r ∷ rest) n ≡ in_ranges n rest
rest-counted r rest apart low n =
    let f : ℕ → Bool = λ k. in_ranges k (r ∷ rest) in
    either (counted (r ∷ rest) n ≡ in_ranges n rest) (in_ranges n rest)
    (λ there.
    let p : r.1 + 2 ≤ n = in-apart n (r.1 + 2) rest apart.2 there in
    let out : is_within (r.1 + 1) r ≡ false = by_test (is_within (r.1 + 1) r) (λ t. let q = (within-parts (r.1 + 1) r t).1 in omega (arith, q)) in
    let behind : in_ranges (r.1 + 1) rest ≡ false = by_test (in_ranges (r.1 + 1) rest) (λ t. let q = in-apart (r.1 + 1) (r.1 + 2) rest apart.2 t in omega (arith, q)) in
    let gap : all_to f n ≡ false = all-missing f n (r.1 + 1) (omega arith) (omega (arith, p)) (or_false (is_within (r.1 + 1) r) (in_ranges (r.1 + 1) rest) out behind) in
    and_from (in_ranges n (r ∷ rest)) (not (all_to f n)) (or_second (is_within n r) (in_ranges n rest) there) (ap not gap) ∙ sym there)
    (λ absent.
    either (counted (r ∷ rest) n ≡ in_ranges n rest) (is_within n r)
    (λ inside.
    let top : n ≤ r.1 = (within-parts n r inside).1 in
    let full : all_to f n ≡ true = all-there f n (λ k le up.
    or_first (is_within k r) (in_ranges k rest) (and_from (nat_le r.0 k) (nat_le k r.1) (le-leb r.0 k (omega (arith, low, le))) (le-leb k r.1 (omega (arith, up, top))))) in
    ap (λ b. in_ranges n (r ∷ rest) && not b) full ∙ never (in_ranges n (r ∷ rest)) ∙ sym absent)
    (λ outside. and_false (in_ranges n (r ∷ rest)) (not (all_to f n)) (or_false (is_within n r) (in_ranges n rest) outside absent) ∙ sym absent))
  where
    never : (a : Bool) → (a && false) ≡ false
    never true = refl
    never false = refl

-- the ranges end where the last number is
up-to : (k b : ℕ) (rs : List (ℕ × ℕ)) → AreApartFrom k rs → ((n : ℕ) → in_ranges n rs ≡ true → n ≤ b) → AreUpTo b rs
up-to k b [] apart h = tt
up-to k b (r ∷ rest) apart h = (
  h r.1 (or_first (is_within r.1 r) (in_ranges r.1 rest) (and_from (nat_le r.0 r.1) (nat_le r.1 r.1) (le-leb r.0 r.1 apart.1) (le-leb r.1 r.1 (omega arith)))),
  up-to (r.1 + 2) b rest apart.2 (λ n e. h n (or_second (is_within n r) (in_ranges n rest) e)),
)

pub gap-ranges : (rs : List (ℕ × ℕ)) (b : ℕ) → AreApart rs → ((n : ℕ) → in_ranges n rs ≡ true → n ≤ b) → above_a_gap rs ≡ count_to (is_above_gap (λ n. in_ranges n rs)) b
gap-ranges [] b apart h = sym (count-none (counted []) (λ n. refl) b)
gap-ranges (r ∷ rest) b apart h =
    let up : AreUpTo b (r ∷ rest) = up-to 0 b (r ∷ rest) apart h in
    elim (nat_le r.0 1) as (λ t. nat_le r.0 1 ≡ t → (if t then sum_by size_of rest else sum_by size_of (r ∷ rest)) ≡ count_to (counted (r ∷ rest)) b) [
      | true ↦ λ e. count-ranges (r.1 + 2) b rest (omega arith) apart.2 up.1 ∙ sym (count-same (counted (r ∷ rest)) (λ n. in_ranges n rest) (rest-counted r rest apart (leb-true r.0 1 e)) b)
      | false ↦ λ e.
          let above : 1 < r.0 = leb-false r.0 1 e in
          count-ranges r.0 b (r ∷ rest) (omega (arith, above)) (omega arith, apart.1, apart.2) up ∙ sym (count-same (counted (r ∷ rest)) (λ n. in_ranges n (r ∷ rest)) (all-counted r rest apart above) b)
    ] refl

-- ---- acknowledgements

same-all : (f g : ℕ → Bool) → ((n : ℕ) → f n ≡ g n) → (n : ℕ) → all_to f n ≡ all_to g n
same-all f g same zero = refl
same-all f g same (suc n) = λ i. same (suc n) i && same-all f g same n i

pub gap-acknowledged : (c : List ℕ) (origin : ℕ) (S : List Op) (b : ℕ) → ((n : ℕ) → is_acknowledged c S (n, origin) ≡ true → n ≤ b)
    → above_a_gap (acknowledged c origin S) ≡ count_to (is_above_gap (is_told c origin S)) b
gap-acknowledged c origin S b h =
    let same : (n : ℕ) → in_ranges n (acknowledged c origin S) ≡ is_told c origin S n = λ n. in-acknowledged c origin n S in
    gap-ranges (acknowledged c origin S) b (apart-acknowledged c origin S) (λ n e. h n (sym (same n) ∙ e))
    ∙ count-same (is_above_gap (λ n. in_ranges n (acknowledged c origin S))) (is_above_gap (is_told c origin S))
    (λ n i. same n i && not (same-all (λ n. in_ranges n (acknowledged c origin S)) (is_told c origin S) same n i)) b

sum-same : (f g : ℕ → ℕ) → ((n : ℕ) → f n ≡ g n) → (n : ℕ) → sum_to f n ≡ sum_to g n
sum-same f g same zero = refl
sum-same f g same (suc n) = λ i. same (suc n) i + sum-same f g same n i

pub exceptions-counted : (c : List ℕ) (S : List Op) (b : ℕ) → ((origin n : ℕ) → is_acknowledged c S (n, origin) ≡ true → n ≤ b)
    → exceptions c S ≡ sum_to (λ origin. count_to (is_above_gap (is_told c origin S)) b) 255
unfolding exceptions
exceptions-counted c S b h = sum-same (λ origin. above_a_gap (acknowledged c origin S)) (λ origin. count_to (is_above_gap (is_told c origin S)) b) (λ origin. gap-acknowledged c origin S b (h origin)) 255
