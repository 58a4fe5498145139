-- Ranges in ascending order that do not touch: one more of them, and that their numbers determine them.
use Rattle.std.proofs.Common.{◌≡◌, ℕ, ◌+◌, ◌≤◌, Bool, true, false, ◌||◌, if◌then◌else◌, nat_le, nat_lt, max, List, [], ◌∷◌, refl, sym, ap, ◌∙◌, true≢false, arith, le-leb, leb-true, leb-false, ltb-true, ltb-false, le_antisymm, subst}
use Rattle.std.specs.List.{AllByRecursion}
use Rattle.std.proofs.lemmas.Bool.{and_parts, and_from, or_left, or_right, false_from_ne_true}
use Rattle.rep_model.specs.Ranges.{is_within, in_ranges, AreApartFrom, AreApart}
use Rattle.rep_model.specs.Limits.{with_range, joined}

abbrev pub IsRange : ℕ × ℕ → Type 0
IsRange r = r.0 ≤ r.1

-- the range of both, where they overlap or touch
abbrev pub merged : ℕ × ℕ → ℕ × ℕ → ℕ × ℕ
merged r s = (if nat_le r.0 s.0 then r.0 else s.0, max r.1 s.1)

lesser : (a b : ℕ) → ((if nat_le a b then a else b) ≤ a) × ((if nat_le a b then a else b) ≤ b)
lesser a b = elim (nat_le a b) as (λ l. nat_le a b ≡ l → ((if l then a else b) ≤ a) × ((if l then a else b) ≤ b)) [
  | true ↦ λ e. let h = leb-true a b e in (omega arith, omega arith)
  | false ↦ λ e. let h = leb-false a b e in (omega arith, omega arith)
] refl

lesser_above : (k a b : ℕ) → k ≤ a → k ≤ b → k ≤ (if nat_le a b then a else b)
lesser_above k a b f g = elim (nat_le a b) as (λ l. k ≤ (if l then a else b)) [ true ↦ f | false ↦ g ]

merged-range : (r s : ℕ × ℕ) → IsRange r → IsRange s → IsRange (merged r s)
merged-range r s f g = let l = lesser r.0 s.0 in omega (arith, l.0, f)

apart_lower : (j k : ℕ) (rs : List (ℕ × ℕ)) → j ≤ k → AreApartFrom k rs → AreApartFrom j rs
apart_lower j k [] e h = tt
apart_lower j k (r ∷ rs) e h = (omega (arith, h.0), h.1, h.2)

-- one more range leaves the ranges apart
pub apart-with_range : (k : ℕ) (r : ℕ × ℕ) (rs : List (ℕ × ℕ)) → AreApartFrom k rs → k ≤ r.0 → IsRange r → AreApartFrom k (with_range r rs)
apart-with_range k r [] h low own = (low, own, tt)
apart-with_range k r (s ∷ rest) h low own =
    elim (nat_lt (r.1 + 1) s.0) as (λ b. nat_lt (r.1 + 1) s.0 ≡ b → AreApartFrom k (if b then r ∷ s ∷ rest else (if nat_lt (s.1 + 1) r.0 then s ∷ with_range r rest else with_range (merged r s) rest))) [
      | true ↦ λ e. let l = ltb-true (r.1 + 1) s.0 e in (low, own, (omega (arith, l), h.1, h.2))
      | false ↦ λ _. elim (nat_lt (s.1 + 1) r.0) as (λ b. nat_lt (s.1 + 1) r.0 ≡ b → AreApartFrom k (if b then s ∷ with_range r rest else with_range (merged r s) rest)) [
        | true ↦ λ e. let l = ltb-true (s.1 + 1) r.0 e in (h.0, h.1, apart-with_range (s.1 + 2) r rest h.2 (omega (arith, l)) own)
        | false ↦ λ _. apart-with_range k (merged r s) rest (apart_lower k (s.1 + 2) rest (omega (arith, h.0, h.1)) h.2) (lesser_above k r.0 s.0 low h.0) (merged-range r s own h.1)
      ] refl
    ] refl

within-from : (n : ℕ) (r : ℕ × ℕ) → r.0 ≤ n → n ≤ r.1 → is_within n r ≡ true
within-from n r f g = and_from (nat_le r.0 n) (nat_le n r.1) (le-leb r.0 n f) (le-leb n r.1 g)

pub within-parts : (n : ℕ) (r : ℕ × ℕ) → is_within n r ≡ true → (r.0 ≤ n) × (n ≤ r.1)
within-parts n r e = let w = and_parts (nat_le r.0 n) (nat_le n r.1) e in (leb-true r.0 n w.0, leb-true n r.1 w.1)

agree_test : (a b : Bool) → (a ≡ true → b ≡ true) → (b ≡ true → a ≡ true) → a ≡ b
agree_test true b f g = sym (f refl)
agree_test false true f g = g refl
agree_test false false f g = refl

by_or : {P : Type 0} (x y : Bool) → (x || y) ≡ true → (x ≡ true → P) → (y ≡ true → P) → P
by_or true y e f g = f refl
by_or false y e f g = g e

-- where r and s overlap or touch, a number between their least and their greatest lies in one of them
reached : (n : ℕ) (r s : ℕ × ℕ) → s.0 ≤ r.1 + 1 → r.0 ≤ s.1 + 1 → (if nat_le r.0 s.0 then r.0 else s.0) ≤ n → n ≤ max r.1 s.1 → (is_within n r || is_within n s) ≡ true
reached n r s p q =
    elim (nat_le r.0 s.0) as (λ b. nat_le r.0 s.0 ≡ b → (if b then r.0 else s.0) ≤ n → n ≤ max r.1 s.1 → (is_within n r || is_within n s) ≡ true) [
      | true ↦ λ e f g. let l = leb-true r.0 s.0 e in elim (nat_le n r.1) as (λ b. nat_le n r.1 ≡ b → (is_within n r || is_within n s) ≡ true) [
        | true ↦ λ h. or_left (is_within n r) (is_within n s) (within-from n r f (leb-true n r.1 h))
        | false ↦ λ h. let k = leb-false n r.1 h in or_right (is_within n r) (is_within n s) (within-from n s (omega (arith, k, p)) (omega (arith, k, g)))
      ] refl
      | false ↦ λ e f g. let l = leb-false r.0 s.0 e in elim (nat_le n s.1) as (λ b. nat_le n s.1 ≡ b → (is_within n r || is_within n s) ≡ true) [
        | true ↦ λ h. or_right (is_within n r) (is_within n s) (within-from n s f (leb-true n s.1 h))
        | false ↦ λ h. let k = leb-false n s.1 h in or_left (is_within n r) (is_within n s) (within-from n r (omega (arith, k, q)) (omega (arith, k, g)))
      ] refl
    ] refl

within-merged : (n : ℕ) (r s : ℕ × ℕ) → s.0 ≤ r.1 + 1 → r.0 ≤ s.1 + 1 → is_within n (merged r s) ≡ (is_within n r || is_within n s)
within-merged n r s p q =
    let l = lesser r.0 s.0 in
    agree_test (is_within n (merged r s)) (is_within n r || is_within n s)
    (λ e. let w = within-parts n (merged r s) e in reached n r s p q w.0 w.1)
    (λ e. by_or (is_within n r) (is_within n s) e
    (λ h. let w = within-parts n r h in within-from n (merged r s) (omega (arith, l.0, w.0)) (omega (arith, w.1)))
    (λ h. let w = within-parts n s h in within-from n (merged r s) (omega (arith, l.1, w.0)) (omega (arith, w.1))))

turned : (a b d : Bool) → (a || (b || d)) ≡ (b || (a || d))
turned true true d = refl
turned true false d = refl
turned false b d = refl

regrouped : (a b d : Bool) → ((a || b) || d) ≡ (a || (b || d))
regrouped true b d = refl
regrouped false b d = refl

-- the numbers of the ranges with one more: its own and theirs
pub in-with_range : (n : ℕ) (r : ℕ × ℕ) (rs : List (ℕ × ℕ)) → in_ranges n (with_range r rs) ≡ (is_within n r || in_ranges n rs)
in-with_range n r [] = refl
in-with_range n r (s ∷ rest) =
    elim (nat_lt (r.1 + 1) s.0) as (λ b. nat_lt (r.1 + 1) s.0 ≡ b → in_ranges n (if b then r ∷ s ∷ rest else (if nat_lt (s.1 + 1) r.0 then s ∷ with_range r rest else with_range (merged r s) rest)) ≡ (is_within n r || (is_within n s || in_ranges n rest))) [
      | true ↦ λ _. refl
      | false ↦ λ p. elim (nat_lt (s.1 + 1) r.0) as (λ b. nat_lt (s.1 + 1) r.0 ≡ b → in_ranges n (if b then s ∷ with_range r rest else with_range (merged r s) rest) ≡ (is_within n r || (is_within n s || in_ranges n rest))) [
        | true ↦ λ _. ap (λ b. is_within n s || b) (in-with_range n r rest) ∙ turned (is_within n s) (is_within n r) (in_ranges n rest)
        | false ↦ λ q. in-with_range n (merged r s) rest
            ∙ ap (λ b. b || in_ranges n rest) (within-merged n r s (ltb-false (r.1 + 1) s.0 p) (ltb-false (s.1 + 1) r.0 q))
            ∙ regrouped (is_within n r) (is_within n s) (in_ranges n rest)
      ] refl
    ] refl

pub in-joined : (n : ℕ) (rs : List (ℕ × ℕ)) → in_ranges n (joined rs) ≡ in_ranges n rs
in-joined n [] = refl
in-joined n (r ∷ rest) = in-with_range n r (joined rest) ∙ ap (λ b. is_within n r || b) (in-joined n rest)

pub apart-joined : (rs : List (ℕ × ℕ)) → AllByRecursion IsRange rs → AreApart (joined rs)
apart-joined [] h = tt
apart-joined (r ∷ rest) h = apart-with_range 0 r (joined rest) (apart-joined rest h.1) (omega arith) h.0

-- all numbers are at the start or later
pub in-apart : (n k : ℕ) (rs : List (ℕ × ℕ)) → AreApartFrom k rs → in_ranges n rs ≡ true → k ≤ n
in-apart n k [] h e = absurd (true≢false (sym e))
in-apart n k (r ∷ rest) h e = by_or (is_within n r) (in_ranges n rest) e
    (λ f. omega (arith, h.0, (within-parts n r f).0))
    (λ f. omega (arith, h.0, h.1, in-apart n (r.1 + 2) rest h.2 f))

-- the first number of the first range is the least
least : (j k : ℕ) (r t : ℕ × ℕ) (rs ts : List (ℕ × ℕ)) → AreApartFrom j (r ∷ rs) → AreApartFrom k (t ∷ ts) → ((n : ℕ) → in_ranges n (r ∷ rs) ≡ in_ranges n (t ∷ ts)) → t.0 ≤ r.0
least j k r t rs ts h g same = in-apart r.0 t.0 (t ∷ ts) (omega arith, g.1, g.2)
    (sym (same r.0) ∙ or_left (is_within r.0 r) (in_ranges r.0 rs) (within-from r.0 r (omega arith) h.1))

-- the first range does not end earlier than the other's
last : (j k : ℕ) (r t : ℕ × ℕ) (rs ts : List (ℕ × ℕ)) → AreApartFrom j (r ∷ rs) → AreApartFrom k (t ∷ ts) → ((n : ℕ) → in_ranges n (r ∷ rs) ≡ in_ranges n (t ∷ ts)) → r.0 ≡ t.0 → t.1 ≤ r.1
last j k r t rs ts h g same start =
    elim (nat_le t.1 r.1) as (λ b. nat_le t.1 r.1 ≡ b → t.1 ≤ r.1) [
      | true ↦ λ e. leb-true t.1 r.1 e
      | false ↦ λ e. let l = leb-false t.1 r.1 e in
          by_or (is_within (r.1 + 1) r) (in_ranges (r.1 + 1) rs) (same (r.1 + 1) ∙ or_left (is_within (r.1 + 1) t) (in_ranges (r.1 + 1) ts) (within-from (r.1 + 1) t (omega (arith, start, h.1)) (omega (arith, l))))
          (λ f. absurd (omega (arith, (within-parts (r.1 + 1) r f).1)))
          (λ f. absurd (omega (arith, in-apart (r.1 + 1) (r.1 + 2) rs h.2 f)))
    ] refl

-- after the first range
rest_same : (n : ℕ) (r : ℕ × ℕ) (rs ts : List (ℕ × ℕ)) → AreApartFrom (r.1 + 2) rs → AreApartFrom (r.1 + 2) ts → in_ranges n (r ∷ rs) ≡ in_ranges n (r ∷ ts) → in_ranges n rs ≡ in_ranges n ts
rest_same n r rs ts h g =
    elim (is_within n r) as (λ b. is_within n r ≡ b → (b || in_ranges n rs) ≡ (b || in_ranges n ts) → in_ranges n rs ≡ in_ranges n ts) [
      | true ↦ λ e _. let w = within-parts n r e in
          false_from_ne_true (in_ranges n rs) (λ f. omega (arith, in-apart n (r.1 + 2) rs h f, w.1))
          ∙ sym (false_from_ne_true (in_ranges n ts) (λ f. omega (arith, in-apart n (r.1 + 2) ts g f, w.1)))
      | false ↦ λ _ same. same
    ] refl

-- ranges that are apart and have the same numbers are the same
pub same_ranges : (j k : ℕ) (rs ts : List (ℕ × ℕ)) → AreApartFrom j rs → AreApartFrom k ts → ((n : ℕ) → in_ranges n rs ≡ in_ranges n ts) → rs ≡ ts
same_ranges j k [] [] h g same = refl
same_ranges j k [] (t ∷ ts) h g same = absurd (true≢false (sym (same t.0 ∙ or_left (is_within t.0 t) (in_ranges t.0 ts) (within-from t.0 t (omega arith) g.1))))
same_ranges j k (r ∷ rs) [] h g same = absurd (true≢false (sym (sym (same r.0) ∙ or_left (is_within r.0 r) (in_ranges r.0 rs) (within-from r.0 r (omega arith) h.1))))
same_ranges j k (r ∷ rs) (t ∷ ts) h g same =
    let turn = λ (n : ℕ). sym (same n) in
    let starts : r.0 ≡ t.0 = le_antisymm (least k j t r ts rs g h turn) (least j k r t rs ts h g same) in
    let ends : r.1 ≡ t.1 = le_antisymm (last k j t r ts rs g h turn (sym starts)) (last j k r t rs ts h g same starts) in
    let first : r ≡ t = λ i. (starts i, ends i) in
    let behind : AreApartFrom (r.1 + 2) ts = subst (λ m. AreApartFrom (m + 2) ts) (sym ends) g.2 in
    let rests = same_ranges (r.1 + 2) (r.1 + 2) rs ts h.2 behind (λ n. rest_same n r rs ts h.2 behind (same n ∙ ap (λ x. is_within n x || in_ranges n ts) (sym first))) in
    λ i. first i ∷ rests i
