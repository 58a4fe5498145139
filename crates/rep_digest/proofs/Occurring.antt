-- Where the entry of an origin stands among the entries of all origins, and what becomes of them when one of them changes.
use Rattle.std.proofs.Common.{◌≡◌, ℕ, zero, suc, ◌+◌, ◌<◌, ◌≤◌, ◌==◌, Bool, true, false, cond, ◌||◌, List, [], ◌∷◌, map, filter, get_or, set, length, refl, sym, ap, ◌∙◌, arith, true≢false, eqb-true, eq-eqb, Some, None, Less, Equal, Greater, is_lt, nat_cmp, Ordering}
use Rattle.std.specs.Prelude.{nat_lt}
use Rattle.std.specs.List.{insert, find}
use Rattle.std.specs.Cmp.{nat_cmp_is, on_total}
use Rattle.std.proofs.lemmas.Bool.{and_from, or_left, lt-ltb, ne_eqb, eqb-false}
use Rattle.std.proofs.lemmas.Cmp.{nat_cmp_total}
use Rattle.rep_op.proofs.Names.{nat_equal, nat_less, same_nat}
use Rattle.sn_tables.specs.Tables.{is_ascending}
use Rattle.sn_tables.specs.inner.Tables.{AllAbove, IsFoundAt, IsGap}
use Rattle.sn_tables.proofs.Ascending.{Ascends, from_test}
use Rattle.sn_tables.proofs.Places.{find_at, find_gap}
use Rattle.rep_digest.specs.declared.entry.OriginEntry.{OriginEntry}
use Rattle.rep_digest.specs.Digests.{has_ranges, numbers_from}
use Rattle.rep_digest.specs.WellMade.{OriginsAscend}

not_less : Equal ≡ Less → ⊥
not_less e = cc

not_greater : Equal ≡ Greater → ⊥
not_greater e = cc

less_greater : Less ≡ Greater → ⊥
less_greater e = cc

-- the entries of which something is said, of n numbers from start on
abbrev pub listed : (ℕ → OriginEntry) → ℕ → ℕ → List OriginEntry
listed draft start n = filter has_ranges (map draft (numbers_from start n))

-- entries of which nothing is said
pub silent : (e : OriginEntry) → has_ranges e ≡ false → (e.acknowledged ≡ []) × (e.waiting ≡ [])
silent e h = none e.acknowledged e.waiting h
  where
    none : (xs ys : List (ℕ × ℕ)) → (nat_lt 0 (length xs) || nat_lt 0 (length ys)) ≡ false → (xs ≡ []) × (ys ≡ [])
    none [] [] e = (refl, refl)
    none [] (y ∷ ys) e = absurd (true≢false (sym (lt-ltb 0 (suc (length ys)) (omega arith)) ∙ e))
    none (x ∷ xs) ys e = absurd (true≢false (sym (or_left (nat_lt 0 (suc (length xs))) (nat_lt 0 (length ys)) (lt-ltb 0 (suc (length xs)) (omega arith))) ∙ e))

module _ (o : ℕ) where
  abbrev pub sought : OriginEntry → Ordering
  sought e = nat_cmp e.origin o

  none_at : (xs : List OriginEntry) (at : ℕ) → AllAbove sought xs → IsFoundAt sought xs at → ⊥
  none_at [] at up h = h
  none_at (x ∷ xs) zero up h = not_greater (sym h.0 ∙ up.0)
  none_at (x ∷ xs) (suc at) up h = less_greater (sym h.0 ∙ up.0)

  none_below : (xs : List OriginEntry) (at : ℕ) → AllAbove sought xs → IsGap sought xs (suc at) → ⊥
  none_below [] at up h = h
  none_below (x ∷ xs) at up h = less_greater (sym h.0 ∙ up.0)

  at_here : (b : Bool) (f g d : OriginEntry) (rest more : List OriginEntry) (at : ℕ) → sought f ≡ Equal → AllAbove sought rest → more ≡ rest → IsFoundAt sought (cond b (f ∷ rest) rest) at
      → (get_or (cond b (f ∷ rest) rest) at d ≡ f) × (g ∷ more ≡ set (cond b (f ∷ rest) rest) at g)
  at_here true f g d rest more zero eq up same h = (refl, ap (λ r. g ∷ r) same)
  at_here true f g d rest more (suc at) eq up same h = absurd (not_less (sym eq ∙ h.0))
  at_here false f g d rest more at eq up same h = absurd (none_at rest at up h)

  at_below : (b : Bool) (f g v d : OriginEntry) (rest more : List OriginEntry) (at : ℕ) → sought f ≡ Less
      → ((i : ℕ) → IsFoundAt sought rest i → (get_or rest i d ≡ v) × (more ≡ set rest i g)) → IsFoundAt sought (cond b (f ∷ rest) rest) at
      → (get_or (cond b (f ∷ rest) rest) at d ≡ v) × (cond b (f ∷ more) more ≡ set (cond b (f ∷ rest) rest) at g)
  at_below true f g v d rest more zero lt each h = absurd (not_less (sym h.0 ∙ lt))
  at_below true f g v d rest more (suc at) lt each h = let r = each at h.1 in (r.0, ap (λ xs. f ∷ xs) r.1)
  at_below false f g v d rest more at lt each h = each at h

  gap_here : (b : Bool) (f g : OriginEntry) (rest more : List OriginEntry) (at : ℕ) → sought f ≡ Equal → AllAbove sought rest → more ≡ rest → IsGap sought (cond b (f ∷ rest) rest) at
      → (b ≡ false) × (g ∷ more ≡ insert (cond b (f ∷ rest) rest) at g)
  gap_here true f g rest more zero eq up same h = absurd (not_greater (sym eq ∙ h.0))
  gap_here true f g rest more (suc at) eq up same h = absurd (not_less (sym eq ∙ h.0))
  gap_here false f g rest more zero eq up same h = (refl, ap (λ r. g ∷ r) same)
  gap_here false f g rest more (suc at) eq up same h = absurd (none_below rest at up h)

  gap_below : (b none : Bool) (f g : OriginEntry) (rest more : List OriginEntry) (at : ℕ) → sought f ≡ Less
      → ((i : ℕ) → IsGap sought rest i → (none ≡ false) × (more ≡ insert rest i g)) → IsGap sought (cond b (f ∷ rest) rest) at
      → (none ≡ false) × (cond b (f ∷ more) more ≡ insert (cond b (f ∷ rest) rest) at g)
  gap_below true none f g rest more zero lt each h = absurd (less_greater (sym lt ∙ h.0))
  gap_below true none f g rest more (suc at) lt each h = let r = each at h.1 in (r.0, ap (λ xs. f ∷ xs) r.1)
  gap_below false none f g rest more at lt each h = each at h

  -- ---- two drafts that differ in one origin

  module _ (F G : ℕ → OriginEntry) (number : (m : ℕ) → (F m).origin ≡ m) (others : (m : ℕ) → (m ≡ o → ⊥) → G m ≡ F m) where
    pub unchanged : (start n : ℕ) → ((m : ℕ) → start ≤ m → m < start + n → m ≡ o → ⊥) → listed G start n ≡ listed F start n
    unfolding numbers_from
    unchanged start zero apart = refl
    unchanged start (suc n) apart =
        let first = others start (apart start (omega arith) (omega arith)) in
        let rest = unchanged (start + 1) n (λ m low high. apart m (omega (arith, low)) (omega (arith, high))) in
        λ i. cond (has_ranges (first i)) (first i ∷ rest i) (rest i)

    after : (m : ℕ) → o < m → sought (F m) ≡ Greater
    after m lt = ap (λ k. nat_cmp k o) (number m) ∙ sym (nat_cmp_is m o Greater lt)

    before : (m : ℕ) → m < o → sought (F m) ≡ Less
    before m lt = ap (λ k. nat_cmp k o) (number m) ∙ sym (nat_cmp_is m o Less lt)

    here : (m : ℕ) → m ≡ o → sought (F m) ≡ Equal
    here m e = ap (λ k. nat_cmp k o) (number m) ∙ sym (nat_cmp_is m o Equal e)

    above : (start n : ℕ) → o < start → AllAbove sought (listed F start n)
    unfolding numbers_from
    above start zero lt = tt
    above start (suc n) lt =
        let rest = above (start + 1) n (omega (arith, lt)) in
        elim (has_ranges (F start)) as (λ b. AllAbove sought (cond b (F start ∷ listed F (start + 1) n) (listed F (start + 1) n))) [
          | true ↦ (after start lt, rest)
          | false ↦ rest
        ]

    module _ (some : has_ranges (G o) ≡ true) where
      -- the entry of the origin is there
      pub at_place : (start n at : ℕ) (d : OriginEntry) → start ≤ o → o < start + n → IsFoundAt sought (listed F start n) at
          → (get_or (listed F start n) at d ≡ F o) × (listed G start n ≡ set (listed F start n) at (G o))
      unfolding numbers_from
      at_place start zero at d low high h = absurd (omega (arith, low, high))
      at_place start (suc n) at d low high h =
          let rest = listed F (start + 1) n in
          let more = listed G (start + 1) n in
          elim (start == o) as (λ b. (start == o) ≡ b → (get_or (listed F start (suc n)) at d ≡ F o) × (listed G start (suc n) ≡ set (listed F start (suc n)) at (G o))) [
            | true ↦ λ e.
                let same = eqb-true start o e in
                let r = at_here (has_ranges (F start)) (F start) (G start) d rest more at (here start same) (above (start + 1) n (omega (arith, same)))
                (unchanged (start + 1) n (λ m from to is. omega (arith, same, from, is))) h in
                (r.0 ∙ ap F same, ap (λ b. cond b (G start ∷ more) more) (ap (λ m. has_ranges (G m)) same ∙ some) ∙ r.1 ∙ ap (λ m. set (listed F start (suc n)) at (G m)) same)
            | false ↦ λ e.
                let apart = eqb-false start o e in
                let first = others start apart in
                let r = at_below (has_ranges (F start)) (F start) (G o) (F o) d rest more at (before start (omega (arith, low, apart)))
                (λ i k. at_place (start + 1) n i d (omega (arith, low, apart)) (omega (arith, high)) k) h in
                (r.0, (λ i. cond (has_ranges (first i)) (first i ∷ more) more) ∙ r.1)
          ] refl

      -- the entry of the origin is not there
      pub at_gap : (start n at : ℕ) → start ≤ o → o < start + n → IsGap sought (listed F start n) at
          → (has_ranges (F o) ≡ false) × (listed G start n ≡ insert (listed F start n) at (G o))
      unfolding numbers_from
      at_gap start zero at low high h = absurd (omega (arith, low, high))
      at_gap start (suc n) at low high h =
          let rest = listed F (start + 1) n in
          let more = listed G (start + 1) n in
          elim (start == o) as (λ b. (start == o) ≡ b → (has_ranges (F o) ≡ false) × (listed G start (suc n) ≡ insert (listed F start (suc n)) at (G o))) [
            | true ↦ λ e.
                let same = eqb-true start o e in
                let r = gap_here (has_ranges (F start)) (F start) (G start) rest more at (here start same) (above (start + 1) n (omega (arith, same)))
                (unchanged (start + 1) n (λ m from to is. omega (arith, same, from, is))) h in
                (ap (λ m. has_ranges (F m)) (sym same) ∙ r.0, ap (λ b. cond b (G start ∷ more) more) (ap (λ m. has_ranges (G m)) same ∙ some) ∙ r.1 ∙ ap (λ m. insert (listed F start (suc n)) at (G m)) same)
            | false ↦ λ e.
                let apart = eqb-false start o e in
                let first = others start apart in
                let r = gap_below (has_ranges (F start)) (has_ranges (F o)) (F start) (G o) rest more at (before start (omega (arith, low, apart)))
                (λ i k. at_gap (start + 1) n i (omega (arith, low, apart)) (omega (arith, high)) k) h in
                (r.0, (λ i. cond (has_ranges (first i)) (first i ∷ more) more) ∙ r.1)
          ] refl

-- ---- the entries ascend

abbrev pub BeginsAt : ℕ → List OriginEntry → Type 0
BeginsAt start [] = Unit {0}
BeginsAt start (o ∷ os) = start ≤ o.origin

module _ (draft : ℕ → OriginEntry) (number : (m : ℕ) → (draft m).origin ≡ m) where
  lower : (a b : ℕ) (os : List OriginEntry) → a ≤ b → BeginsAt b os → BeginsAt a os
  lower a b [] le h = tt
  lower a b (o ∷ os) le h = omega (arith, le, h)

  behind : (m : ℕ) (o : OriginEntry) (os : List OriginEntry) → o.origin ≡ m → BeginsAt (m + 1) os → OriginsAscend os → OriginsAscend (o ∷ os)
  behind m o [] is h up = tt
  behind m o (p ∷ os) is h up = (omega (arith, h, is), up)

  pub origins_up : (start n : ℕ) → BeginsAt start (listed draft start n) × OriginsAscend (listed draft start n)
  unfolding numbers_from
  origins_up start zero = (tt, tt)
  origins_up start (suc n) =
      let rest = origins_up (start + 1) n in
      let more = listed draft (start + 1) n in
      elim (has_ranges (draft start)) as (λ b. BeginsAt start (cond b (draft start ∷ more) more) × OriginsAscend (cond b (draft start ∷ more) more)) [
        | true ↦ (let is = number start in omega (arith, is), behind start (draft start) more (number start) rest.0 rest.1)
        | false ↦ (lower start (start + 1) more (omega arith) rest.0, rest.1)
      ]

  -- nothing is said of any origin
  pub none_listed : ((m : ℕ) → has_ranges (draft m) ≡ false) → (start n : ℕ) → listed draft start n ≡ []
  unfolding numbers_from
  none_listed none start zero = refl
  none_listed none start (suc n) = ap (λ b. cond b (draft start ∷ listed draft (start + 1) n) (listed draft (start + 1) n)) (none start) ∙ none_listed none (start + 1) n

ascending_test : (os : List OriginEntry) → OriginsAscend os → is_ascending (λ a b. nat_cmp a.origin b.origin) os ≡ true
ascending_test [] h = refl
ascending_test (a ∷ []) h = refl
ascending_test (a ∷ b ∷ rest) h = and_from (is_lt (nat_cmp a.origin b.origin)) (is_ascending (λ a b. nat_cmp a.origin b.origin) (b ∷ rest)) (ap is_lt (sym (nat_cmp_is a.origin b.origin Less h.0))) (ascending_test (b ∷ rest) h.1)

pub entries_ascend : (os : List OriginEntry) → OriginsAscend os → Ascends (λ a b. nat_cmp a.origin b.origin) os
entries_ascend os h = from_test (λ (a b : OriginEntry). nat_cmp a.origin b.origin) (on_total (λ (e : OriginEntry). e.origin) nat_cmp_total) os (ascending_test os h)

-- ---- the entry that is sought

module _ (o : ℕ) where
  passes : (e : OriginEntry) → sought o e ≡ Equal → (o == e.origin) ≡ true
  passes e h = eq-eqb o e.origin (sym (nat_equal e.origin o h))

  less_apart : (e : OriginEntry) → sought o e ≡ Less → (o == e.origin) ≡ false
  less_apart e h = ne_eqb o e.origin (λ is. let lt = nat_less e.origin o h in omega (arith, is, lt))

  greater_apart : (e : OriginEntry) → sought o e ≡ Greater → (o == e.origin) ≡ false
  greater_apart e h = ne_eqb o e.origin (λ is. not_greater (sym (same_nat e.origin o (sym is)) ∙ h))

  pub found : (os : List OriginEntry) (at : ℕ) (d : OriginEntry) → IsFoundAt (sought o) os at → find (λ e. o == e.origin) os ≡ Some (get_or os at d)
  found os at d h = find_at (sought o) (λ e. o == e.origin) passes less_apart greater_apart os at d h

  pub absent : (os : List OriginEntry) (at : ℕ) → IsGap (sought o) os at → find (λ e. o == e.origin) os ≡ None
  absent os at h = find_gap (sought o) (λ e. o == e.origin) passes less_apart greater_apart os at h
