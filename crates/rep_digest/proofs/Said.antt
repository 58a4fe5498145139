-- What a draft says of an origin is what the set says.
use Rattle.std.proofs.Common.{◌≡◌, ℕ, ◌+◌, ◌<◌, ◌≤◌, ◌==◌, Bool, true, false, ◌&&◌, ◌||◌, T, if◌then◌else◌, nat_le, List, [], ◌∷◌, map, fold, Some, None, IfSome, refl, sym, ap, subst, ◌∙◌, arith, true≢false, leb-true, le-leb, eqb-true, eq-eqb, Less, is_lt, Equal, Greater, nat_cmp}
use Rattle.std.specs.Prelude.{IsTrue}
use Rattle.std.specs.List.{list_any, filter_map, cons_option, AllByRecursion}
use Rattle.std.specs.Ordering.{ordering_then}
use Rattle.std.specs.FinMap.Entries.{below_all, is_sorted}
use Rattle.std.proofs.lemmas.Bool.{and_parts, and_from, or_left, or_right, false_from_ne_true}
use Rattle.rep_op.specs.declared.op.Put.{Put}
use Rattle.rep_op.specs.declared.op.Op.{Op}
use Rattle.rep_op.specs.declared.op.Op.TheVariants.{Session as OfSession, Put as OfPut, Ack, Retain as OfRetain}
use Rattle.rep_op.specs.Orders.{put_cmp}
use Rattle.rep_op.specs.Sets.{same_client}
use Rattle.rep_ops.specs.Making.{AreWellMade}
use Rattle.rep_op.specs.WellMade.{is_well_made}
use Rattle.rep_op.proofs.Names.{made_range, nat_less, same_nat}
use Rattle.rep_ops.proofs.Rising.{Past, Rising}
use Rattle.rep_model.specs.Views.{pending}
use Rattle.rep_model.specs.Limits.{range_of}
use Rattle.rep_model.specs.Ranges.{is_within, in_ranges, AreApartFrom, AreApart}
use Rattle.rep_model.proofs.Readers.{same_client-true}
use Rattle.rep_model.proofs.Waiting.{AreUnderNames, waiting_entries, waiting_under, waiting_sorted}
use Rattle.rep_model.proofs.Ranges.{IsRange, within-parts, in-joined, apart-joined, same_ranges}
use Rattle.rep_digest.specs.Digests.{number_as_range, waiting}
use Rattle.rep_digest.specs.inner.Steps.{acknowledged_by, group, numbers_of, seq_if_own, with_number, in_ranges_of}

-- ---- acknowledgements

-- the ranges of a client's group are those of its acknowledgements in the operations
numbers_one : (c : List ℕ) (o : ℕ) (op : Op) (W : List Op) → IsTrue (is_well_made op)
    → filter_map (numbers_of o) (group W c) ≡ filter_map (range_of c o) W
    → filter_map (numbers_of o) (cons_option (acknowledged_by c op) (group W c)) ≡ cons_option (range_of c o op) (filter_map (range_of c o) W)
numbers_one c o (OfSession d s i change) W made rest = rest
numbers_one c o (OfPut d p) W made rest = rest
numbers_one c o (OfRetain t k) W made rest = rest
numbers_one c o (Ack d q f l) W made rest =
    elim (same_client c d) as (λ b. filter_map (numbers_of o) (cons_option (if b then Some (record { origin = q; first = f; last = l }) else None) (group W c))
    ≡ cons_option (if b && (o == q) && nat_le f l then Some (f, l) else None) (filter_map (range_of c o) W)) [
      | false ↦ rest
      | true ↦ elim (o == q) as (λ b. cons_option (if b then Some (f, l) else None) (filter_map (numbers_of o) (group W c)) ≡ cons_option (if b && nat_le f l then Some (f, l) else None) (filter_map (range_of c o) W)) [
        | false ↦ rest
        | true ↦ (λ i. (f, l) ∷ rest i) ∙ ap (λ b. cons_option (if b then Some (f, l) else None) (filter_map (range_of c o) W)) (sym (le-leb f l (made_range d q f l made).forward))
      ]
    ]

pub group_ranges : (c : List ℕ) (o : ℕ) (W : List Op) → AreWellMade W → filter_map (numbers_of o) (group W c) ≡ filter_map (range_of c o) W
group_ranges c o [] made = refl
group_ranges c o (op ∷ W) made = numbers_one c o op W made.0 (group_ranges c o W made.1)

-- a range of the client and the origin begins at k or later
abbrev BeginsAt : List ℕ → ℕ → ℕ → Op → Type 0
BeginsAt c o k op = IfSome (range_of c o op) (λ r. k ≤ r.0)

begins_later : (c : List ℕ) (o : ℕ) (d : List ℕ) (q f l : ℕ) → same_client c d ≡ true → (o == q) ≡ true → (y : Op) → Past 1 (Ack d q f l) y → BeginsAt c o (l + 2) y
begins_later c o d q f l client origin (OfSession e s i change) past = tt
begins_later c o d q f l client origin (OfPut e p) past = tt
begins_later c o d q f l client origin (OfRetain t k) past = tt
begins_later c o d q f l client origin (Ack e s g m) past =
    elim (same_client c e && (o == s) && nat_le g m) as (λ b. (same_client c e && (o == s) && nat_le g m) ≡ b → IfSome {T = ℕ × ℕ} (if b then Some (g, m) else None) (λ r. l + 2 ≤ r.0)) [
      | false ↦ λ _. tt
      | true ↦ λ t.
          let w = and_parts (same_client c e && (o == s)) (nat_le g m) t in
          let v = and_parts (same_client c e) (o == s) w.0 in
          let far = past.clear (sym (same_client-true c d client) ∙ same_client-true c e v.0) (sym (eqb-true o q origin) ∙ eqb-true o s v.1) in
          omega (arith, far)
    ] refl

all_weaker : {A : Type 0} (P Q : A → Type 0) → ((x : A) → P x → Q x) → (xs : List A) → AllByRecursion P xs → AllByRecursion Q xs
all_weaker P Q f [] h = tt
all_weaker P Q f (x ∷ xs) h = (f x h.0, all_weaker P Q f xs h.1)

apart_rising : (c : List ℕ) (o k : ℕ) (W : List Op) → AllByRecursion (BeginsAt c o k) W → AreWellMade W → Rising 1 W → AreApartFrom k (filter_map (range_of c o) W)
apart_rising c o k [] low made up = tt
apart_rising c o k (OfSession d s i change ∷ W) low made up = apart_rising c o k W low.1 made.1 up.1
apart_rising c o k (OfPut d p ∷ W) low made up = apart_rising c o k W low.1 made.1 up.1
apart_rising c o k (OfRetain t r ∷ W) low made up = apart_rising c o k W low.1 made.1 up.1
apart_rising c o k (Ack d q f l ∷ W) low made up =
    elim (same_client c d && (o == q) && nat_le f l) as (λ b. (same_client c d && (o == q) && nat_le f l) ≡ b → IfSome {T = ℕ × ℕ} (if b then Some (f, l) else None) (λ r. k ≤ r.0)
    → AreApartFrom k (cons_option (if b then Some (f, l) else None) (filter_map (range_of c o) W))) [
      | false ↦ λ _ _. apart_rising c o k W low.1 made.1 up.1
      | true ↦ λ t begins.
          let w = and_parts (same_client c d && (o == q)) (nat_le f l) t in
          let v = and_parts (same_client c d) (o == q) w.0 in
          (begins, leb-true f l w.1, apart_rising c o (l + 2) W (all_weaker (Past 1 (Ack d q f l)) (BeginsAt c o (l + 2)) (begins_later c o d q f l v.0 v.1) W up.0) made.1 up.1)
    ] refl low.0

begins_somewhere : (c : List ℕ) (o : ℕ) (op : Op) → BeginsAt c o 0 op
begins_somewhere c o op = elim (range_of c o op) as (λ r. IfSome r (λ r. 0 ≤ r.0)) [ None ↦ tt | Some r ↦ omega arith ]

begin_somewhere : (c : List ℕ) (o : ℕ) (W : List Op) → AllByRecursion (BeginsAt c o 0) W
begin_somewhere c o [] = tt
begin_somewhere c o (op ∷ W) = (begins_somewhere c o op, begin_somewhere c o W)

pub ranges_rising : (c : List ℕ) (o : ℕ) (W : List Op) → AreWellMade W → Rising 1 W → AreApart (filter_map (range_of c o) W)
ranges_rising c o W made up = apart_rising c o 0 W (begin_somewhere c o W) made up

-- ---- numbers that ascend

abbrev Ascend : List ℕ → Type 0
Ascend [] = Unit {0}
Ascend (n ∷ ns) = AllByRecursion (λ m. n < m) ns × Ascend ns

abbrev is_number : ℕ → List ℕ → Bool
is_number m ns = list_any (λ n. m == n) ns

within_one : (m s : ℕ) → is_within m (s, s) ≡ (m == s)
within_one m s =
    elim (m == s) as (λ b. (m == s) ≡ b → is_within m (s, s) ≡ b) [
      | true ↦ λ e. let same = eqb-true m s e in and_from (nat_le s m) (nat_le m s) (le-leb s m (omega (arith, same))) (le-leb m s (omega (arith, same)))
      | false ↦ λ e. false_from_ne_true (is_within m (s, s)) (λ t.
          let w = within-parts m (s, s) t in
          true≢false (sym (eq-eqb m s (let lo : s ≤ m = w.0 in let hi : m ≤ s = w.1 in omega (arith, lo, hi))) ∙ e))
    ] refl

-- ranges with one number more after them
number_ranges : (k : ℕ) (rs : List (ℕ × ℕ)) (n : ℕ) → AreApartFrom k rs → ((m : ℕ) → in_ranges m rs ≡ true → m < n) → k ≤ n
    → AreApartFrom k (with_number rs n) × ((m : ℕ) → in_ranges m (with_number rs n) ≡ (in_ranges m rs || (m == n)))
number_ranges k [] n h below le = ((le, omega arith, tt), λ m. ap (λ b. b || false) (within_one m n) ∙ nothing (m == n))
  where
    nothing : (b : Bool) → (b || false) ≡ (false || b)
    nothing true = refl
    nothing false = refl
number_ranges k (r ∷ s ∷ rest) n h below le =
    let more = number_ranges (r.1 + 2) (s ∷ rest) n h.2 (λ m e. below m (or_right (is_within m r) (in_ranges m (s ∷ rest)) e))
    (let low = below s.0 (or_right (is_within s.0 r) (in_ranges s.0 (s ∷ rest)) (or_left (is_within s.0 s) (in_ranges s.0 rest) (and_from (nat_le s.0 s.0) (nat_le s.0 s.1) (le-leb s.0 s.0 (omega arith)) (le-leb s.0 s.1 h.2.1)))) in
    omega (arith, low, h.2.0)) in
    ((h.0, h.1, more.0), λ m. ap (λ b. is_within m r || b) (more.1 m) ∙ regroup (is_within m r) (in_ranges m (s ∷ rest)) (m == n))
  where
    regroup : (a b d : Bool) → (a || (b || d)) ≡ ((a || b) || d)
    regroup true b d = refl
    regroup false b d = refl
number_ranges k (r ∷ []) n h below le =
    let last = below r.1 (or_left (is_within r.1 r) false (and_from (nat_le r.0 r.1) (nat_le r.1 r.1) (le-leb r.0 r.1 h.1) (le-leb r.1 r.1 (omega arith)))) in
    elim (r.1 + 1 == n) as (λ b. (r.1 + 1 == n) ≡ b → AreApartFrom k (if b then (r.0, n) ∷ [] else r ∷ (n, n) ∷ []) × ((m : ℕ) → in_ranges m (if b then (r.0, n) ∷ [] else r ∷ (n, n) ∷ []) ≡ ((is_within m r || false) || (m == n)))) [
      | true ↦ λ e.
          let next : r.1 + 1 ≡ n = eqb-true (r.1 + 1) n e in
          ((h.0, omega (arith, next, h.1), tt), λ m. widened r n next h.1 m)
      | false ↦ λ e.
          let apart = ne e in
          ((h.0, h.1, (omega (arith, last, apart), omega arith, tt)), λ m. two (is_within m r) (is_within m (n, n)) (m == n) (within_one m n))
    ] refl
  where
    ne : (r.1 + 1 == n) ≡ false → r.1 + 1 ≡ n → ⊥
    ne e is = true≢false (sym (eq-eqb (r.1 + 1) n is) ∙ e)

    two : (a b d : Bool) → b ≡ d → (a || (b || false)) ≡ ((a || false) || d)
    two true b d e = refl
    two false true d e = e
    two false false d e = e

    widened : (r : ℕ × ℕ) (n : ℕ) → r.1 + 1 ≡ n → r.0 ≤ r.1 → (m : ℕ) → (is_within m (r.0, n) || false) ≡ ((is_within m r || false) || (m == n))
    widened r n next le m = agree (is_within m (r.0, n) || false) ((is_within m r || false) || (m == n))
        (λ t. let w = within-parts m (r.0, n) (plain (is_within m (r.0, n)) t) in
        elim (m == n) as (λ b. (m == n) ≡ b → ((is_within m r || false) || b) ≡ true) [
          | true ↦ λ _. or_right (is_within m r || false) true refl
          | false ↦ λ e. or_left (is_within m r || false) false (or_left (is_within m r) false (and_from (nat_le r.0 m) (nat_le m r.1) (le-leb r.0 m w.0)
              (le-leb m r.1 (let hi : m ≤ n = w.1 in let no_n : m ≡ n → ⊥ = λ is. true≢false (sym (eq-eqb m n is) ∙ e) in omega (arith, hi, no_n, next)))))
        ] refl)
        (λ t. or_left (is_within m (r.0, n)) false (elim (m == n) as (λ b. (m == n) ≡ b → ((is_within m r || false) || b) ≡ true → is_within m (r.0, n) ≡ true) [
          | true ↦ λ e _. let same = eqb-true m n e in and_from (nat_le r.0 m) (nat_le m n) (le-leb r.0 m (omega (arith, same, next, le))) (le-leb m n (omega (arith, same)))
          | false ↦ λ _ u. let w = within-parts m r (plain (is_within m r) (plain (is_within m r || false) u)) in
              let lo : r.0 ≤ m = w.0 in let hi : m ≤ r.1 = w.1 in
              and_from (nat_le r.0 m) (nat_le m n) (le-leb r.0 m lo) (le-leb m n (omega (arith, hi, next)))
        ] refl t))
      where
        plain : (b : Bool) → (b || false) ≡ true → b ≡ true
        plain true e = refl
        plain false e = e

        agree : (a b : Bool) → (a ≡ true → b ≡ true) → (b ≡ true → a ≡ true) → a ≡ b
        agree true b f g = sym (f refl)
        agree false true f g = g refl
        agree false false f g = refl

-- all numbers of a list, one after the other
numbers_ranges : (ns : List ℕ) (rs : List (ℕ × ℕ)) → AreApart rs → Ascend ns → AllByRecursion (λ n. (m : ℕ) → in_ranges m rs ≡ true → m < n) ns
    → AreApart (fold with_number rs ns) × ((m : ℕ) → in_ranges m (fold with_number rs ns) ≡ (in_ranges m rs || is_number m ns))
numbers_ranges [] rs h up below = (h, λ m. nothing (in_ranges m rs))
  where
    nothing : (b : Bool) → b ≡ (b || false)
    nothing true = refl
    nothing false = refl
numbers_ranges (n ∷ ns) rs h up below =
    let one = number_ranges 0 rs n h below.0 (omega arith) in
    let more = numbers_ranges ns (with_number rs n) one.0 up.1 (both_below n ns rs (with_number rs n) one.1 up.0 below.1) in
    (more.0, λ m. more.1 m ∙ ap (λ b. b || is_number m ns) (one.1 m) ∙ regroup (in_ranges m rs) (m == n) (is_number m ns))
  where
    regroup : (a b d : Bool) → ((a || b) || d) ≡ (a || (b || d))
    regroup true b d = refl
    regroup false b d = refl

    by_or : (a b : Bool) (m n k : ℕ) → (a || b) ≡ true → (a ≡ true → m < k) → (b ≡ true → m < k) → m < k
    by_or true b m n k e f g = f refl
    by_or false b m n k e f g = g e

    both_below : (n : ℕ) (ns : List ℕ) (rs new : List (ℕ × ℕ)) → ((m : ℕ) → in_ranges m new ≡ (in_ranges m rs || (m == n))) → AllByRecursion (λ k. n < k) ns
        → AllByRecursion (λ k. (m : ℕ) → in_ranges m rs ≡ true → m < k) ns → AllByRecursion (λ k. (m : ℕ) → in_ranges m new ≡ true → m < k) ns
    both_below n [] rs new is above below = tt
    both_below n (k ∷ ns) rs new is above below =
        ((λ m e. by_or (in_ranges m rs) (m == n) m n k (sym (is m) ∙ e) (λ t. below.0 m t) (λ t. let same = eqb-true m n t in omega (arith, same, above.0))), both_below n ns rs new is above.1 below.1)

pub listed_ranges : (ns : List ℕ) → Ascend ns → AreApart (in_ranges_of ns) × ((m : ℕ) → in_ranges m (in_ranges_of ns) ≡ is_number m ns)
listed_ranges ns up = numbers_ranges ns [] tt up (below_nothing ns)
  where
    below_nothing : (ns : List ℕ) → AllByRecursion (λ n. (m : ℕ) → false ≡ true → m < n) ns
    below_nothing [] = tt
    below_nothing (n ∷ ns) = ((λ m e. absurd (true≢false (sym e))), below_nothing ns)

-- ---- the messages of an origin that wait

in_numbers : (o m : ℕ) (puts : List Put) → in_ranges m (filter_map (number_as_range o) puts) ≡ is_number m (filter_map (seq_if_own o) puts)
in_numbers o m [] = refl
in_numbers o m (p ∷ puts) =
    elim (o == p.origin) as (λ b. in_ranges m (cons_option (if b then Some (p.seq, p.seq) else None) (filter_map (number_as_range o) puts)) ≡ is_number m (cons_option (if b then Some p.seq else None) (filter_map (seq_if_own o) puts))) [
      | true ↦ λ i. within_one m p.seq i || in_numbers o m puts i
      | false ↦ in_numbers o m puts
    ]

pub are_numbers : (o : ℕ) (puts : List Put) → AllByRecursion IsRange (filter_map (number_as_range o) puts)
are_numbers o [] = tt
are_numbers o (p ∷ puts) =
    elim (o == p.origin) as (λ b. AllByRecursion IsRange (cons_option (if b then Some (p.seq, p.seq) else None) (filter_map (number_as_range o) puts))) [ true ↦ (omega arith, are_numbers o puts) | false ↦ are_numbers o puts ]

first : (a b : Bool) → T (a && b) → T a
first true b p = tt
first false b p = p

second : (a b : Bool) → T (a && b) → T b
second true b p = p
second false b p = absurd p

less_number : (a b : ℕ × ℕ) → T (is_lt (put_cmp a b)) → a.1 ≡ b.1 → a.0 < b.0
less_number a b lt same =
    elim (nat_cmp a.0 b.0) as (λ r. nat_cmp a.0 b.0 ≡ r → T (is_lt (ordering_then r (nat_cmp a.1 b.1))) → a.0 < b.0) [
      | Less ↦ λ e _. nat_less a.0 b.0 e
      | Equal ↦ λ _ t. absurd (subst (λ r. T (is_lt r)) (same_nat a.1 b.1 same) t)
      | Greater ↦ λ _ t. absurd t
    ] refl lt

above_name : (o : ℕ) (name : ℕ × ℕ) (es : List ((ℕ × ℕ) × Put)) → name.1 ≡ o → T (below_all put_cmp name es) → AreUnderNames es → AllByRecursion (λ m. name.0 < m) (filter_map (seq_if_own o) (map (λ e. e.1) es))
above_name o name [] own below under = tt
above_name o name (e ∷ es) own below under =
    elim (o == e.1.origin) as (λ b. (o == e.1.origin) ≡ b → AllByRecursion (λ m. name.0 < m) (cons_option (if b then Some e.1.seq else None) (filter_map (seq_if_own o) (map (λ e. e.1) es)))) [
      | true ↦ λ t. (
        less_number name (e.1.seq, e.1.origin) (subst (λ n. T (is_lt (put_cmp name n))) under.0 (first (is_lt (put_cmp name e.0)) (below_all put_cmp name es) below)) (own ∙ eqb-true o e.1.origin t),
        above_name o name es own (second (is_lt (put_cmp name e.0)) (below_all put_cmp name es) below) under.1,
      )
      | false ↦ λ _. above_name o name es own (second (is_lt (put_cmp name e.0)) (below_all put_cmp name es) below) under.1
    ] refl

sorted_numbers : (o : ℕ) (es : List ((ℕ × ℕ) × Put)) → T (is_sorted put_cmp es) → AreUnderNames es → Ascend (filter_map (seq_if_own o) (map (λ e. e.1) es))
sorted_numbers o [] sorted under = tt
sorted_numbers o (e ∷ es) sorted under =
    let below = first (below_all put_cmp e.0 es) (is_sorted put_cmp es) sorted in
    let rest = sorted_numbers o es (second (below_all put_cmp e.0 es) (is_sorted put_cmp es) sorted) under.1 in
    elim (o == e.1.origin) as (λ b. (o == e.1.origin) ≡ b → Ascend (cons_option (if b then Some e.1.seq else None) (filter_map (seq_if_own o) (map (λ e. e.1) es)))) [
      | true ↦ λ t. (
        subst (λ (n : ℕ × ℕ). AllByRecursion (λ m. n.0 < m) (filter_map (seq_if_own o) (map (λ e. e.1) es))) under.0
            (above_name o e.0 es (ap (λ (n : ℕ × ℕ). n.1) under.0 ∙ sym (eqb-true o e.1.origin t)) below under.1),
        rest,
      )
      | false ↦ λ _. rest
    ] refl

pub waiting_said : (c : List ℕ) (o : ℕ) (S : List Op) → in_ranges_of (filter_map (seq_if_own o) (pending c S)) ≡ waiting c o S
waiting_said c o S =
    let listed = listed_ranges (filter_map (seq_if_own o) (pending c S)) (sorted_numbers o (waiting_entries c S) (waiting_sorted c S) (waiting_under c S)) in
    same_ranges 0 0 (in_ranges_of (filter_map (seq_if_own o) (pending c S))) (waiting c o S) listed.0 (apart-joined (filter_map (number_as_range o) (pending c S)) (are_numbers o (pending c S)))
    (λ m. listed.1 m ∙ sym (in_numbers o m (pending c S)) ∙ sym (in-joined m (filter_map (number_as_range o) (pending c S))))
