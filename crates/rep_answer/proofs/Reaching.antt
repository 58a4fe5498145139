-- Ranges from a number on, and what of a range is in none of them.
use Rattle.std.proofs.Common.{◌≡◌, ℕ, zero, suc, ◌+◌, ◌-◌, ◌<◌, ◌≤◌, Bool, true, false, not, ◌&&◌, ◌||◌, ◌⊎◌, if◌then◌else◌, nat_le, Some, None, List, [], ◌∷◌, ◌++◌, take, drop, length, get_or, refl, sym, ap, ◌∙◌, arith, true≢false, leb-true, le-leb, leb-false, inl, inr}
use Rattle.std.specs.Prelude.{nat_lt}
use Rattle.std.specs.List.{AllByRecursion}
use Rattle.std.specs.List.Sorted.{IsPartitionedBy}
use Rattle.std.proofs.lemmas.Bool.{and_parts, and_from, or_left, or_right, ltb-true, lt-ltb, ltb-false, false_from_ne_true, cases_lt}
use Rattle.rep_model.specs.Ranges.{is_within, in_ranges, AreApartFrom, AreApart}
use Rattle.rep_model.proofs.Ranges.{within-parts, in-apart}
use Rattle.rep_answer.specs.inner.Steps.{ending_from, beginning_by, begins_by, reaches_into, before, behind, outside_from, outside}

within-from : (n : ℕ) (r : ℕ × ℕ) → r.0 ≤ n → n ≤ r.1 → is_within n r ≡ true
within-from n r f g = and_from (nat_le r.0 n) (nat_le n r.1) (le-leb r.0 n f) (le-leb n r.1 g)

by_or : {P : Type 0} (x y : Bool) → (x || y) ≡ true → (x ≡ true → P) → (y ≡ true → P) → P
by_or true y e f g = f refl
by_or false y e f g = g e

-- ---- where the ends ascend

end_above : (k : ℕ) (rs : List (ℕ × ℕ)) (j : ℕ) (d : ℕ × ℕ) → AreApartFrom k rs → j < length rs → k ≤ (get_or rs j d).1
end_above k [] j d h lt = absurd (omega (arith, lt))
end_above k (r ∷ rs) zero d h lt = omega (arith, h.0, h.1)
end_above k (r ∷ rs) (suc j) d h lt = let more = end_above (r.1 + 2) rs j d h.2 (omega (arith, lt)) in omega (arith, more, h.0, h.1)

ends_up : (k : ℕ) (rs : List (ℕ × ℕ)) (i j : ℕ) (d : ℕ × ℕ) → AreApartFrom k rs → i ≤ j → j < length rs → (get_or rs i d).1 ≤ (get_or rs j d).1
ends_up k [] i j d h le lt = absurd (omega (arith, lt))
ends_up k (r ∷ rs) zero zero d h le lt = omega arith
ends_up k (r ∷ rs) zero (suc j) d h le lt = let more = end_above (r.1 + 2) rs j d h.2 (omega (arith, lt)) in omega (arith, more)
ends_up k (r ∷ rs) (suc i) zero d h le lt = absurd (omega (arith, le))
ends_up k (r ∷ rs) (suc i) (suc j) d h le lt = ends_up (r.1 + 2) rs i j d h.2 (omega (arith, le)) (omega (arith, lt))

pub partitioned : (n : ℕ) (rs : List (ℕ × ℕ)) → AreApart rs → IsPartitionedBy (λ r. nat_lt r.1 n) rs
partitioned n rs h = λ i j d le lt e.
    let up = ends_up 0 rs i j d h le lt in
    let below = ltb-true (get_or rs j d).1 n e in
    lt-ltb (get_or rs i d).1 n (omega (arith, up, below))

pub drop_ending : (n : ℕ) (rs : List (ℕ × ℕ)) (at : ℕ) → at ≤ length rs → ((j : ℕ) (d : ℕ × ℕ) → j < at → nat_lt (get_or rs j d).1 n ≡ true) → ((j : ℕ) (d : ℕ × ℕ) → at ≤ j → j < length rs → nat_lt (get_or rs j d).1 n ≡ false)
    → drop at rs ≡ ending_from n rs
drop_ending n [] zero le below above = refl
drop_ending n [] (suc at) le below above = absurd (omega (arith, le))
drop_ending n (r ∷ rs) zero le below above = ap (λ b. if b then ending_from n rs else r ∷ rs) (sym (above zero r (omega arith) (omega arith)))
drop_ending n (r ∷ rs) (suc at) le below above =
    drop_ending n rs at (omega (arith, le)) (λ j d lt. below (suc j) d (omega (arith, lt))) (λ j d from lt. above (suc j) d (omega (arith, from)) (omega (arith, lt)))
    ∙ ap (λ b. if b then ending_from n rs else r ∷ rs) (sym (below zero r (omega arith)))

-- ---- where the begins ascend

begin_above : (k : ℕ) (rs : List (ℕ × ℕ)) (j : ℕ) (d : ℕ × ℕ) → AreApartFrom k rs → j < length rs → k ≤ (get_or rs j d).0
begin_above k [] j d h lt = absurd (omega (arith, lt))
begin_above k (r ∷ rs) zero d h lt = h.0
begin_above k (r ∷ rs) (suc j) d h lt = let more = begin_above (r.1 + 2) rs j d h.2 (omega (arith, lt)) in omega (arith, more, h.0, h.1)

begins_up : (k : ℕ) (rs : List (ℕ × ℕ)) (i j : ℕ) (d : ℕ × ℕ) → AreApartFrom k rs → i ≤ j → j < length rs → (get_or rs i d).0 ≤ (get_or rs j d).0
begins_up k [] i j d h le lt = absurd (omega (arith, lt))
begins_up k (r ∷ rs) zero zero d h le lt = omega arith
begins_up k (r ∷ rs) zero (suc j) d h le lt = let more = begin_above (r.1 + 2) rs j d h.2 (omega (arith, lt)) in omega (arith, more, h.1)
begins_up k (r ∷ rs) (suc i) zero d h le lt = absurd (omega (arith, le))
begins_up k (r ∷ rs) (suc i) (suc j) d h le lt = begins_up (r.1 + 2) rs i j d h.2 (omega (arith, le)) (omega (arith, lt))

pub begun_first : (n : ℕ) (rs : List (ℕ × ℕ)) → AreApart rs → IsPartitionedBy (λ r. nat_le r.0 n) rs
begun_first n rs h = λ i j d le lt e.
    let up = begins_up 0 rs i j d h le lt in
    let below = leb-true (get_or rs j d).0 n e in
    le-leb (get_or rs i d).0 n (omega (arith, up, below))

pub take_beginning : (n : ℕ) (rs : List (ℕ × ℕ)) (at : ℕ) → at ≤ length rs → ((j : ℕ) (d : ℕ × ℕ) → j < at → nat_le (get_or rs j d).0 n ≡ true) → ((j : ℕ) (d : ℕ × ℕ) → at ≤ j → j < length rs → nat_le (get_or rs j d).0 n ≡ false)
    → take at rs ≡ beginning_by n rs
take_beginning n [] zero le below above = refl
take_beginning n [] (suc at) le below above = absurd (omega (arith, le))
take_beginning n (r ∷ rs) zero le below above = ap (λ b. if b then r ∷ beginning_by n rs else []) (sym (above zero r (omega arith) (omega arith)))
take_beginning n (r ∷ rs) (suc at) le below above =
    ap (λ x. r ∷ x) (take_beginning n rs at (omega (arith, le)) (λ j d lt. below (suc j) d (omega (arith, lt))) (λ j d from lt. above (suc j) d (omega (arith, from)) (omega (arith, lt))))
    ∙ ap (λ b. if b then r ∷ beginning_by n rs else []) (sym (below zero r (omega arith)))

pub apart_beginning : (n k : ℕ) (rs : List (ℕ × ℕ)) → AreApartFrom k rs → AreApartFrom k (beginning_by n rs)
apart_beginning n k [] h = tt
apart_beginning n k (r ∷ rs) h = elim (nat_le r.0 n) as (λ b. AreApartFrom k (if b then r ∷ beginning_by n rs else [])) [ true ↦ (h.0, h.1, apart_beginning n (r.1 + 2) rs h.2) | false ↦ tt ]

-- ---- a number, among ranges from it on

not_within_later : (n k : ℕ) (rs : List (ℕ × ℕ)) → AreApartFrom k rs → n < k → in_ranges n rs ≡ false
not_within_later n k rs h lt = false_from_ne_true (in_ranges n rs) (λ e. let low = in-apart n k rs h e in omega (arith, low, lt))

pub in_ending : (n k : ℕ) (rs : List (ℕ × ℕ)) → AreApartFrom k rs → begins_by n (ending_from n rs) ≡ in_ranges n rs
in_ending n k [] h = refl
in_ending n k (r ∷ rs) h =
    elim (nat_lt r.1 n) as (λ b. nat_lt r.1 n ≡ b → begins_by n (if b then ending_from n rs else r ∷ rs) ≡ (is_within n r || in_ranges n rs)) [
      | true ↦ λ e.
          let past = ltb-true r.1 n e in
          in_ending n (r.1 + 2) rs h.2 ∙ ap (λ b. b || in_ranges n rs) (sym (false_from_ne_true (is_within n r) (λ w. let p = (within-parts n r w).1 in omega (arith, p, past))))
      | false ↦ λ e.
          let upto = ltb-false r.1 n e in
          elim (nat_le r.0 n) as (λ b. nat_le r.0 n ≡ b → b ≡ ((b && nat_le n r.1) || in_ranges n rs)) [
            | true ↦ λ _. ap (λ b. b || in_ranges n rs) (sym (le-leb n r.1 upto))
            | false ↦ λ f. let before = leb-false r.0 n f in sym (not_within_later n (r.1 + 2) rs h.2 (omega (arith, before, h.1)))
          ] refl
    ] refl

-- ---- what is outside

in_both : (n : ℕ) (xs ys : List (ℕ × ℕ)) → in_ranges n (xs ++ ys) ≡ (in_ranges n xs || in_ranges n ys)
in_both n [] ys = refl
in_both n (x ∷ xs) ys = ap (λ b. is_within n x || b) (in_both n xs ys) ∙ regroup (is_within n x) (in_ranges n xs) (in_ranges n ys)
  where
    regroup : (a b d : Bool) → (a || (b || d)) ≡ ((a || b) || d)
    regroup true b d = refl
    regroup false b d = refl

plain : (b : Bool) → (b || false) ≡ true → b ≡ true
plain true e = refl
plain false e = e

-- how two ranges lie
data Lies (r s : ℕ × ℕ) : Type 0 where
  apart : reaches_into r s ≡ false → (r.1 < s.0) ⊎ (s.1 < r.0) → Lies r s
  joined : reaches_into r s ≡ true → s.0 ≤ r.1 → r.0 ≤ s.1 → Lies r s

lies : (r s : ℕ × ℕ) → Lies r s
lies r s = elim (nat_le s.0 r.1) as (λ b. nat_le s.0 r.1 ≡ b → Lies r s) [
  | false ↦ λ e. apart (ap (λ b. b && nat_le r.0 s.1) e) (inl (leb-false s.0 r.1 e))
  | true ↦ λ e. elim (nat_le r.0 s.1) as (λ b. nat_le r.0 s.1 ≡ b → Lies r s) [
    | false ↦ λ f. apart (λ i. e i && f i) (inr (leb-false r.0 s.1 f))
    | true ↦ λ f. joined (λ i. e i && f i) (leb-true s.0 r.1 e) (leb-true r.0 s.1 f)
  ] refl
] refl

nothing_before : (r s : ℕ × ℕ) → reaches_into r s ≡ false → before r s ≡ []
nothing_before r s e = ap (λ b. if nat_lt r.0 s.0 && b then (r.0, s.0 - 1) ∷ [] else []) e ∙ nothing (nat_lt r.0 s.0) ((r.0, s.0 - 1) ∷ [])
  where
    nothing : (b : Bool) (x : List (ℕ × ℕ)) → (if b && false then x else []) ≡ []
    nothing true x = refl
    nothing false x = refl

step_apart : (r s : ℕ × ℕ) (rs : List (ℕ × ℕ)) → reaches_into r s ≡ false → outside r (s ∷ rs) ≡ outside r rs
step_apart r s rs e = (λ i. nothing_before r s e i ++ outside_from (if e i then (if nat_lt s.1 r.1 then Some (s.1 + 1, r.1) else None) else Some r) rs)

in_before : (n : ℕ) (r s : ℕ × ℕ) → in_ranges n (before r s) ≡ true → (r.0 ≤ n) × (n < s.0)
in_before n r s = elim (nat_lt r.0 s.0 && reaches_into r s) as (λ b. (nat_lt r.0 s.0 && reaches_into r s) ≡ b → in_ranges n (if b then (r.0, s.0 - 1) ∷ [] else []) ≡ true → (r.0 ≤ n) × (n < s.0)) [
  | true ↦ λ e t.
      let lt = ltb-true r.0 s.0 (and_parts (nat_lt r.0 s.0) (reaches_into r s) e).0 in
      let w = within-parts n (r.0, s.0 - 1) (plain (is_within n (r.0, s.0 - 1)) t) in
      let hi : n ≤ s.0 - 1 = w.1 in
      (w.0, omega (arith, hi, lt))
  | false ↦ λ e t. absurd (true≢false (sym t))
] refl

before_in : (n : ℕ) (r s : ℕ × ℕ) → reaches_into r s ≡ true → r.0 ≤ n → n < s.0 → in_ranges n (before r s) ≡ true
before_in n r s e lo hi =
    ap (λ b. in_ranges n (if b then (r.0, s.0 - 1) ∷ [] else [])) (and_from (nat_lt r.0 s.0) (reaches_into r s) (lt-ltb r.0 s.0 (omega (arith, lo, hi))) e)
    ∙ or_left (is_within n (r.0, s.0 - 1)) false (within-from n (r.0, s.0 - 1) lo (omega (arith, hi)))

record IsOutside (n : ℕ) (r : ℕ × ℕ) (rs : List (ℕ × ℕ)) : Type 0 where
  within : is_within n r ≡ true
  none : in_ranges n rs ≡ false

not_within : (n : ℕ) (s : ℕ × ℕ) → (n < s.0) ⊎ (s.1 < n) → is_within n s ≡ false
not_within n s out = false_from_ne_true (is_within n s) (λ w. let p = within-parts n s w in elim out [ inl lt ↦ (let lo = p.0 in omega (arith, lo, lt)) | inr gt ↦ (let hi = p.1 in omega (arith, hi, gt)) ])

outside_is : (n k : ℕ) (r : ℕ × ℕ) (rs : List (ℕ × ℕ)) → r.0 ≤ r.1 → AreApartFrom k rs → in_ranges n (outside r rs) ≡ true → IsOutside n r rs
outside_is n k r [] le h e = record { within = plain (is_within n r) e; none = refl }
outside_is n k r (s ∷ rs) le h e =
    elim (lies r s) [
      | apart no_reach side ↦
          let o = outside_is n (s.1 + 2) r rs le h.2 (ap (in_ranges n) (sym (step_apart r s rs no_reach)) ∙ e) in
          let p = within-parts n r o.within in
          let lo : r.0 ≤ n = p.0 in
          let hi : n ≤ r.1 = p.1 in
          record { within = o.within; none = ap (λ b. b || in_ranges n rs) (not_within n s (elim side [ inl lt ↦ inl (omega (arith, hi, lt)) | inr gt ↦ inr (omega (arith, lo, gt)) ])) ∙ o.none }
      | joined reach from upto ↦ by_or (in_ranges n (before r s)) (in_ranges n (outside_from (behind r s) rs)) (sym (in_both n (before r s) (outside_from (behind r s) rs)) ∙ e)
          (λ b. let p = in_before n r s b in
          record { within = within-from n r p.0 (omega (arith, p.1, from)); none = not_within_later n s.0 (s ∷ rs) (omega arith, h.1, h.2) p.1 })
          (λ a. elim (nat_lt s.1 r.1) as (λ b. nat_lt s.1 r.1 ≡ b → in_ranges n (outside_from (if b then Some (s.1 + 1, r.1) else None) rs) ≡ true → IsOutside n r (s ∷ rs)) [
            | true ↦ λ f u.
                let lt = ltb-true s.1 r.1 f in
                let o = outside_is n (s.1 + 2) (s.1 + 1, r.1) rs (omega (arith, lt)) h.2 u in
                let p = within-parts n (s.1 + 1, r.1) o.within in
                let lo : s.1 + 1 ≤ n = p.0 in
                record { within = within-from n r (omega (arith, lo, upto)) p.1; none = ap (λ b. b || in_ranges n rs) (not_within n s (inr (omega (arith, lo)))) ∙ o.none }
            | false ↦ λ _ u. absurd (true≢false (sym u))
          ] refl (ap (λ b. in_ranges n (outside_from (if b then (if nat_lt s.1 r.1 then Some (s.1 + 1, r.1) else None) else Some r) rs)) (sym reach) ∙ a))
    ]

first_false : (a b : Bool) → (a || b) ≡ false → a ≡ false
first_false false b e = refl
first_false true b e = e

second_false : (a b : Bool) → (a || b) ≡ false → b ≡ false
second_false false b e = e
second_false true b e = absurd (true≢false e)

is_outside : (n k : ℕ) (r : ℕ × ℕ) (rs : List (ℕ × ℕ)) → AreApartFrom k rs → is_within n r ≡ true → in_ranges n rs ≡ false → in_ranges n (outside r rs) ≡ true
is_outside n k r [] h w none = or_left (is_within n r) false w
is_outside n k r (s ∷ rs) h w none =
    let p = within-parts n r w in
    let lo : r.0 ≤ n = p.0 in
    let hi : n ≤ r.1 = p.1 in
    let no_rs : in_ranges n rs ≡ false = second_false (is_within n s) (in_ranges n rs) none in
    elim (lies r s) [
      | apart no_reach side ↦ ap (in_ranges n) (step_apart r s rs no_reach) ∙ is_outside n (s.1 + 2) r rs h.2 w no_rs
      | joined reach from upto ↦ in_both n (before r s) (outside_from (behind r s) rs) ∙ elim (cases_lt n s.0) [
        | inl lt ↦ or_left (in_ranges n (before r s)) (in_ranges n (outside_from (behind r s) rs)) (before_in n r s reach lo lt)
        | inr ge ↦ or_right (in_ranges n (before r s)) (in_ranges n (outside_from (behind r s) rs)) (
            let past : s.1 < n = elim (cases_lt s.1 n) [
              | inl lt ↦ lt
              | inr le ↦ absurd (true≢false (sym (within-from n s ge le) ∙ first_false (is_within n s) (in_ranges n rs) none))
            ] in
            ap (λ b. in_ranges n (outside_from (if b then (if nat_lt s.1 r.1 then Some (s.1 + 1, r.1) else None) else Some r) rs)) reach
            ∙ ap (λ b. in_ranges n (outside_from (if b then Some (s.1 + 1, r.1) else None) rs)) (lt-ltb s.1 r.1 (omega (arith, past, hi)))
            ∙ is_outside n (s.1 + 2) (s.1 + 1, r.1) rs h.2 (within-from n (s.1 + 1, r.1) (omega (arith, past)) hi) no_rs)
      ]
    ]

-- ranges that end before the range make no difference
pub outside_ending : (r : ℕ × ℕ) (rs : List (ℕ × ℕ)) → outside r (ending_from r.0 rs) ≡ outside r rs
outside_ending r [] = refl
outside_ending r (s ∷ rs) =
    elim (nat_lt s.1 r.0) as (λ b. nat_lt s.1 r.0 ≡ b → outside r (if b then ending_from r.0 rs else s ∷ rs) ≡ outside r (s ∷ rs)) [
      | true ↦ λ e. outside_ending r rs ∙ sym (step_apart r s rs (ap (λ b. nat_le s.0 r.1 && b) (let past = ltb-true s.1 r.0 e in false_from_ne_true (nat_le r.0 s.1) (λ t. let le = leb-true r.0 s.1 t in omega (arith, le, past))) ∙ falsely (nat_le s.0 r.1)))
      | false ↦ λ _. refl
    ] refl
  where
    falsely : (b : Bool) → (b && false) ≡ false
    falsely true = refl
    falsely false = refl

-- nor do ranges that begin after it
beyond : (k : ℕ) (r : ℕ × ℕ) (rs : List (ℕ × ℕ)) → AreApartFrom k rs → r.1 < k → outside r rs ≡ r ∷ []
beyond k r [] h lt = refl
beyond k r (s ∷ rs) h lt =
    step_apart r s rs (ap (λ b. b && nat_le r.0 s.1) (false_from_ne_true (nat_le s.0 r.1) (λ t. let le = leb-true s.0 r.1 t in omega (arith, le, lt, h.0))))
    ∙ beyond (s.1 + 2) r rs h.2 (omega (arith, lt, h.0, h.1))

pub outside_beginning : (n k : ℕ) (r : ℕ × ℕ) (rs : List (ℕ × ℕ)) → r.1 ≡ n → AreApartFrom k rs → outside r (beginning_by n rs) ≡ outside r rs
outside_beginning n k r [] ends h = refl
outside_beginning n k r (s ∷ rs) ends h =
    elim (nat_le s.0 n) as (λ b. nat_le s.0 n ≡ b → outside r (if b then s ∷ beginning_by n rs else []) ≡ outside r (s ∷ rs)) [
      | false ↦ λ e. sym (beyond s.0 r (s ∷ rs) (omega arith, h.1, h.2) (let past = leb-false s.0 n e in omega (arith, past, ends)))
      | true ↦ λ _. ap (λ x. before r s ++ x) (elim (reaches_into r s) as (λ b. outside_from (if b then (if nat_lt s.1 r.1 then Some (s.1 + 1, r.1) else None) else Some r) (beginning_by n rs)
          ≡ outside_from (if b then (if nat_lt s.1 r.1 then Some (s.1 + 1, r.1) else None) else Some r) rs) [
            | false ↦ outside_beginning n (s.1 + 2) r rs ends h.2
            | true ↦ elim (nat_lt s.1 r.1) as (λ b. outside_from (if b then Some (s.1 + 1, r.1) else None) (beginning_by n rs) ≡ outside_from (if b then Some (s.1 + 1, r.1) else None) rs) [
              | true ↦ outside_beginning n (s.1 + 2) (s.1 + 1, r.1) rs ends h.2
              | false ↦ refl
            ]
          ])
    ] refl

agree : (a b : Bool) → (a ≡ true → b ≡ true) → (b ≡ true → a ≡ true) → a ≡ b
agree true b f g = sym (f refl)
agree false true f g = g refl
agree false false f g = refl

-- what is left of a range has its numbers that are in none of the ranges
pub in_outside : (n k : ℕ) (r : ℕ × ℕ) (rs : List (ℕ × ℕ)) → r.0 ≤ r.1 → AreApartFrom k rs → in_ranges n (outside r rs) ≡ (is_within n r && not (in_ranges n rs))
in_outside n k r rs le h = agree (in_ranges n (outside r rs)) (is_within n r && not (in_ranges n rs))
    (λ e. let o = outside_is n k r rs le h e in and_from (is_within n r) (not (in_ranges n rs)) o.within (ap not o.none))
    (λ e. let w = and_parts (is_within n r) (not (in_ranges n rs)) e in is_outside n k r rs h w.0 (turned (in_ranges n rs) w.1))
  where
    turned : (b : Bool) → not b ≡ true → b ≡ false
    turned false e = refl
    turned true e = absurd (true≢false (sym e))

-- a part of the range
pub record IsPartOf (r p : ℕ × ℕ) : Type 0 where
  pub from : r.0 ≤ p.0
  pub forward : p.0 ≤ p.1

part_lower : (r q p : ℕ × ℕ) → r.0 ≤ q.0 → IsPartOf q p → IsPartOf r p
part_lower r q p le h = record { from = omega (arith, le, h.from); forward = h.forward }

all_weaker : {A : Type 0} (P Q : A → Type 0) → ((x : A) → P x → Q x) → (xs : List A) → AllByRecursion P xs → AllByRecursion Q xs
all_weaker P Q f [] h = tt
all_weaker P Q f (x ∷ xs) h = (f x h.0, all_weaker P Q f xs h.1)

all_both : {A : Type 0} (P : A → Type 0) (xs ys : List A) → AllByRecursion P xs → AllByRecursion P ys → AllByRecursion P (xs ++ ys)
all_both P [] ys f g = g
all_both P (x ∷ xs) ys f g = (f.0, all_both P xs ys f.1 g)

part_before : (r s : ℕ × ℕ) → AllByRecursion (IsPartOf r) (before r s)
part_before r s = elim (nat_lt r.0 s.0 && reaches_into r s) as (λ b. (nat_lt r.0 s.0 && reaches_into r s) ≡ b → AllByRecursion (IsPartOf r) (if b then (r.0, s.0 - 1) ∷ [] else [])) [
  | true ↦ λ e. let lt = ltb-true r.0 s.0 (and_parts (nat_lt r.0 s.0) (reaches_into r s) e).0 in (record { from = omega arith; forward = omega (arith, lt) }, tt)
  | false ↦ λ _. tt
] refl

parts_behind : (r s : ℕ × ℕ) (rs : List (ℕ × ℕ)) → AllByRecursion (IsPartOf r) (outside r rs) → (s.1 < r.1 → AllByRecursion (IsPartOf (s.1 + 1, r.1)) (outside (s.1 + 1, r.1) rs)) → AllByRecursion (IsPartOf r) (outside_from (behind r s) rs)
parts_behind r s rs all rest = elim (reaches_into r s) as (λ b. reaches_into r s ≡ b → AllByRecursion (IsPartOf r) (outside_from (if b then (if nat_lt s.1 r.1 then Some (s.1 + 1, r.1) else None) else Some r) rs)) [
  | false ↦ λ _. all
  | true ↦ λ e. elim (nat_lt s.1 r.1) as (λ b. nat_lt s.1 r.1 ≡ b → AllByRecursion (IsPartOf r) (outside_from (if b then Some (s.1 + 1, r.1) else None) rs)) [
    | true ↦ λ f.
        let lt = ltb-true s.1 r.1 f in
        let upto = leb-true r.0 s.1 (and_parts (nat_le s.0 r.1) (nat_le r.0 s.1) e).1 in
        all_weaker (IsPartOf (s.1 + 1, r.1)) (IsPartOf r) (λ p q. part_lower r (s.1 + 1, r.1) p (omega (arith, upto)) q) (outside (s.1 + 1, r.1) rs) (rest lt)
    | false ↦ λ _. tt
  ] refl
] refl

-- what is left is made of parts of the range
pub parts : (r : ℕ × ℕ) (rs : List (ℕ × ℕ)) → r.0 ≤ r.1 → AllByRecursion (IsPartOf r) (outside r rs)
parts r [] le = (record { from = omega arith; forward = le }, tt)
parts r (s ∷ rs) le = all_both (IsPartOf r) (before r s) (outside_from (behind r s) rs) (part_before r s) (parts_behind r s rs (parts r rs le) (λ lt. parts (s.1 + 1, r.1) rs (omega (arith, lt))))
