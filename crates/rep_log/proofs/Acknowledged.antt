-- The acknowledged numbers of each origin, and what they cover.
use Rattle.std.proofs.Common.{◌≡◌, ℕ, suc, ◌+◌, ◌-◌, ◌^◌, min, ◌≤◌, Bool, true, false, cond, ◌&&◌, ◌||◌, ◌==◌, nat_le, List, [], ◌∷◌, map, Option, Some, T, refl, sym, ap, ◌∙◌, subst, arith, eqb-true, Vec, Global, nat_cmp}
use Rattle.std.specs.Option.{option_map}
use Rattle.std.specs.List.{list_any, AllByRecursion}
use Rattle.std.specs.Ordering.{eq_by_cmp}
use Rattle.std.specs.Map.{lookup}
use Rattle.std.specs.BTreeMap.{is_at, insert_entry}
use Rattle.std.specs.FinMap.{find, put, is_sorted}
use Rattle.std.specs.FinMap.Entries.{below_all, is_sorted-put, find-put}
use Rattle.std.specs.Cmp.{unsigned_tied}
use Rattle.std.proofs.lemmas.Cmp.{nat_cmp_total}
use Rattle.std.proofs.lemmas.List.Folds.{list_any-append}
use Rattle.std.proofs.lemmas.Map.Lookups.{exact_unsigned}
use Rattle.rep_model.specs.Ranges.{is_within, in_ranges, AreApartFrom}
use Rattle.rep_model.specs.Limits.{with_range, above_a_gap, sum_to}
use Rattle.rep_model.proofs.Ranges.{in-with_range, apart-with_range}
use Rattle.rep_shared.specs.Steps.{capped}
use Rattle.rep_shared.proofs.Maps.{insert_is_put, lookup_is_find}
use Rattle.rep_shared.proofs.Numbers.{capped_sum}
use Rattle.rep_shared.proofs.Flat.{find_below, all_put}
use Rattle.rep_shared.proofs.Found.{find_map, map_put}
use Rattle.rep_log.specs.Mail.{covers}
use Rattle.rep_shared.specs.Rows.{or_nothing}
use Rattle.rep_log.specs.Origins.{origins_of, ranges_of_origin, ranges_in, IsOrigin, AreOrigins, origins_above_gaps}

-- ---- out of the map

pub ranges_found : (o : ℕ) (es : List (ℕ × Vec (ℕ × ℕ) Global)) (found : Option (Vec (ℕ × ℕ) Global)) → found ≡ lookup (is_at (nat_cmp o)) es → or_nothing (option_map (λ (v : Vec (ℕ × ℕ) Global). v.items) found) ≡ ranges_of_origin o (origins_of es)
ranges_found o es found h = ap (λ x. or_nothing (option_map (λ (v : Vec (ℕ × ℕ) Global). v.items) x)) (h ∙ lookup_is_find nat_cmp o es) ∙ sym (ap or_nothing (find_map nat_cmp (λ (v : Vec (ℕ × ℕ) Global). v.items) o es))

pub origins_put : (o : ℕ) (v : Vec (ℕ × ℕ) Global) (es new : List (ℕ × Vec (ℕ × ℕ) Global)) → new ≡ insert_entry nat_cmp es o v → origins_of new ≡ put nat_cmp o v.items (origins_of es)
origins_put o v es new is = ap origins_of (is ∙ insert_is_put nat_cmp o v es) ∙ map_put nat_cmp (λ (v : Vec (ℕ × ℕ) Global). v.items) o v es

-- ---- what is covered

first : (a b : Bool) → T (a && b) → T a
first true b p = tt
first false b p = p

second : (a b : Bool) → T (a && b) → T b
second true b p = p
second false b p = absurd p

never : (b : Bool) → false ≡ (b && false)
never true = refl
never false = refl

or_none : (b : Bool) → (b || false) ≡ b
or_none true = refl
or_none false = refl

turned : (a b : Bool) → (a || b) ≡ (b || a)
turned true true = refl
turned true false = refl
turned false true = refl
turned false false = refl

spread : (b x y z : Bool) → (((b && x) && y) || (b && z)) ≡ (b && ((x && y) || z))
spread true x y z = refl
spread false x y z = refl

covers_one : (q : ℕ × ℕ) (o : ℕ) (rs : List (ℕ × ℕ)) → list_any (covers q) (map (λ r. (o, r)) rs) ≡ ((q.1 == o) && in_ranges q.0 rs)
covers_one q o [] = never (q.1 == o)
covers_one q o (r ∷ rs) = ap (λ x. ((q.1 == o) && nat_le r.0 q.0 && nat_le q.0 r.1) || x) (covers_one q o rs) ∙ spread (q.1 == o) (nat_le r.0 q.0) (nat_le q.0 r.1) (in_ranges q.0 rs)

-- the ranges of the name's origin decide
pub covers_at : (q : ℕ × ℕ) (es : List (ℕ × List (ℕ × ℕ))) → T (is_sorted nat_cmp es) → list_any (covers q) (ranges_in es) ≡ in_ranges q.0 (ranges_of_origin q.1 es)
covers_at q [] h = refl
covers_at q (e ∷ es) h =
    let rest = covers_at q es (second (below_all nat_cmp e.0 es) (is_sorted nat_cmp es) h) in
    list_any-append (covers q) (map (λ r. (e.0, r)) e.1) (ranges_in es)
    ∙ (λ i. covers_one q e.0 e.1 i || rest i)
    ∙ elim (q.1 == e.0) as (λ b. (q.1 == e.0) ≡ b → ((b && in_ranges q.0 e.1) || in_ranges q.0 (ranges_of_origin q.1 es)) ≡ in_ranges q.0 (or_nothing (cond b (Some e.1) (find nat_cmp q.1 es)))) [
      | true ↦ λ t.
          let same : q.1 ≡ e.0 = eqb-true q.1 e.0 t in
          let below = subst (λ k. T (below_all nat_cmp k es)) (sym same) (first (below_all nat_cmp e.0 es) (is_sorted nat_cmp es) h) in
          ap (λ x. in_ranges q.0 e.1 || in_ranges q.0 (or_nothing x)) (find_below nat_cmp q.1 es below) ∙ or_none (in_ranges q.0 e.1)
      | false ↦ λ _. refl
    ] refl
    ∙ sym (ap (λ b. in_ranges q.0 (or_nothing (cond b (Some e.1) (find nat_cmp q.1 es)))) (unsigned_tied q.1 e.0))

-- with one range more
pub covers_put : (q : ℕ × ℕ) (o : ℕ) (r : ℕ × ℕ) (es : List (ℕ × List (ℕ × ℕ))) → T (is_sorted nat_cmp es) → list_any (covers q) (ranges_in (put nat_cmp o (with_range r (ranges_of_origin o es)) es)) ≡ (list_any (covers q) (ranges_in es) || covers q (o, r))
covers_put q o r es h =
    let more = with_range r (ranges_of_origin o es) in
    covers_at q (put nat_cmp o more es) (is_sorted-put nat_cmp nat_cmp_total o more es h)
    ∙ ap (λ x. in_ranges q.0 (or_nothing x)) (find-put nat_cmp nat_cmp_total q.1 o more es)
    ∙ ap (λ b. in_ranges q.0 (or_nothing (cond b (Some more) (find nat_cmp q.1 es)))) (unsigned_tied q.1 o)
    ∙ elim (q.1 == o) as (λ b. (q.1 == o) ≡ b → in_ranges q.0 (or_nothing (cond b (Some more) (find nat_cmp q.1 es))) ≡ (in_ranges q.0 (ranges_of_origin q.1 es) || ((b && nat_le r.0 q.0) && nat_le q.0 r.1))) [
      | true ↦ λ t. in-with_range q.0 r (ranges_of_origin o es)
          ∙ ap (λ k. is_within q.0 r || in_ranges q.0 (ranges_of_origin k es)) (sym (eqb-true q.1 o t))
          ∙ turned (is_within q.0 r) (in_ranges q.0 (ranges_of_origin q.1 es))
      | false ↦ λ _. sym (or_none (in_ranges q.0 (ranges_of_origin q.1 es)))
    ] refl
    ∙ ap (λ b. b || covers q (o, r)) (sym (covers_at q es h))

-- ---- they stay apart

found_origin : (o : ℕ) (es : List (ℕ × List (ℕ × ℕ))) → AllByRecursion (λ e. IsOrigin e.0 e.1) es → AreApartFrom 1 (ranges_of_origin o es)
found_origin o [] h = tt
found_origin o (e ∷ es) h = elim (eq_by_cmp nat_cmp o e.0) as (λ b. AreApartFrom 1 (or_nothing (cond b (Some e.1) (find nat_cmp o es)))) [ true ↦ h.0.1 | false ↦ found_origin o es h.1 ]

pub apart_at : (o : ℕ) (es : List (ℕ × List (ℕ × ℕ))) → AreOrigins es → AreApartFrom 1 (ranges_of_origin o es)
apart_at o es h = found_origin o es h.apart

pub origins_more : (o : ℕ) (r : ℕ × ℕ) (es : List (ℕ × List (ℕ × ℕ))) → 1 ≤ o → 1 ≤ r.0 → r.0 ≤ r.1 → AreOrigins es → AreOrigins (put nat_cmp o (with_range r (ranges_of_origin o es)) es)
origins_more o r es origin low own h = record {
  sorted = is_sorted-put nat_cmp nat_cmp_total o (with_range r (ranges_of_origin o es)) es h.sorted;
  apart = all_put nat_cmp exact_unsigned IsOrigin o (with_range r (ranges_of_origin o es)) es (origin, apart-with_range 1 r (ranges_of_origin o es) (apart_at o es h) low own) h.apart;
}

-- ---- how many stand above a gap

pub above_more : (es : List (ℕ × List (ℕ × ℕ))) (n a b r : ℕ) → a ≡ capped (above_a_gap (ranges_of_origin (n + 1) es)) → b ≡ capped (origins_above_gaps es n) → r ≡ min (a + b) (2 ^ 64 - 1) → r ≡ capped (origins_above_gaps es (n + 1))
unfolding origins_above_gaps
above_more es n a b r ea eb er =
    let f = λ (o : ℕ). above_a_gap (ranges_of_origin o es) in
    er ∙ (λ i. min (ea i + eb i) (2 ^ 64 - 1)) ∙ capped_sum (f (n + 1)) (sum_to f n)
    ∙ ap capped (sym (ap (sum_to f) (let e : n + 1 ≡ suc n = omega arith in e) ∙ ap (λ m. f m + sum_to f n) (let e : suc n ≡ n + 1 = omega arith in e)))
