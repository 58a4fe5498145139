-- Joined operations: the same set, in the order of their names, each name once, no range touching the next.
use Rattle.std.proofs.Common.{◌≡◌, ℕ, suc, ◌+◌, ◌≤◌, ◌<◌, Bool, true, false, cond, ◌&&◌, ◌||◌, List, [], ◌∷◌, length, get_or, refl, sym, ap, subst, ◌∙◌, inl, inr, arith}
use Rattle.std.specs.Prelude.{IsTrue, nat_le, ◌==◌, max, Option, Some}
use Rattle.std.specs.List.Sorted.{IsSortedBy}
use Rattle.std.specs.Cmp.{IsStrictWeakOrder}
use Rattle.std.specs.Ordering.{is_lt, is_eq, ordering_reverse}
use Rattle.std.specs.declared.cmp.Ordering.{Ordering}
use Rattle.std.specs.declared.cmp.Ordering.TheVariants.{Less, Equal, Greater}
use Rattle.std.proofs.lemmas.Bool.{cases_Bool, cases_lt, both_ways}
use Rattle.std.proofs.lemmas.Bool.Decides.{nat_tests}
use Rattle.std.proofs.lemmas.List.Sorted.{ranks_by}
use Rattle.sn_session.specs.declared.change.SessionOp.{SessionOp}
use Rattle.rep_op.specs.declared.op.Stamp.{Stamp}
use Rattle.rep_op.specs.declared.op.Put.{Put}
use Rattle.rep_op.specs.declared.op.Op.{Op}
use Rattle.rep_op.specs.declared.op.Retained.{Retained}
use Rattle.rep_op.specs.declared.op.Op.TheVariants.{Session as OfSession, Put as OfPut, Ack, Retain as OfRetain}
use Rattle.rep_ops.specs.Deltas.{IsDelta, IsAscending, IsBefore}
use Rattle.rep_ops.specs.inner.Joining.{joins, united, united_from, joined_ops}
use Rattle.rep_ops.specs.Making.{AreWellMade}
use Rattle.rep_op.specs.Orders.{name_cmp, operation_cmp, put_cmp, clock_cmp}
use Rattle.rep_op.specs.Sets.{same_client, operation_at, put_at, acknowledges, is_acknowledged, same_topic, retain_at, Same}
use Rattle.rep_op.specs.WellMade.{is_well_made}
use Rattle.rep_op.proofs.Names.{made_range, range_made, name_total, share_equal, less_nat, same_client_cmp, same_nat}
use Rattle.rep_ops.proofs.Joining.{near_parts, near_joins, all_joined}
use Rattle.rep_ops.proofs.Rising.{Past, Rising, all_past}

-- ---- what is well made

pub united_made : (a b : Op) → IsTrue (is_well_made a) → IsTrue (is_well_made b) → IsTrue (is_well_made (united a b))
united_made (OfSession c s i o) b ha hb = ha
united_made (OfPut c p) b ha hb = ha
united_made (OfRetain t k) b ha hb = ha
united_made (Ack c r f l) (OfSession d t j o) ha hb = ha
united_made (Ack c r f l) (OfPut d q) ha hb = ha
united_made (Ack c r f l) (OfRetain u k) ha hb = ha
united_made (Ack c r f l) (Ack d s g m) ha hb =
    let x = made_range c r f l ha in
    let forward = x.forward in
    range_made c r f (max l m) (record { origin_there = x.origin_there; first_there = x.first_there; forward = omega arith })

pub joined_made : (xs : List Op) → AreWellMade xs → AreWellMade (joined_ops xs)
joined_made xs h = all_joined (λ op. IsTrue (is_well_made op)) united_made xs h

-- ---- the order

abbrev NotAbove : Op → Op → Type 0
NotAbove a b = is_lt (name_cmp b a) ≡ false

-- each is not above the next
abbrev pub Ordered : Op → List Op → Type 0
Ordered a [] = Unit {0}
Ordered a (b ∷ rest) = NotAbove a b × Ordered b rest

weak : IsStrictWeakOrder (λ x y. is_lt (name_cmp x y))
weak = ranks_by name_total (λ a. a)

united_not_above : (a b y : Op) → NotAbove a y → NotAbove (united a b) y
united_not_above (OfSession c s i o) b y h = h
united_not_above (OfPut c p) b y h = h
united_not_above (OfRetain t k) b y h = h
united_not_above (Ack c r f l) (OfSession d t j o) y h = h
united_not_above (Ack c r f l) (OfPut d q) y h = h
united_not_above (Ack c r f l) (OfRetain u k) y h = h
united_not_above (Ack c r f l) (Ack d s g m) (OfSession e t j o) h = h
united_not_above (Ack c r f l) (Ack d s g m) (OfPut e q) h = h
united_not_above (Ack c r f l) (Ack d s g m) (OfRetain u k) h = h
united_not_above (Ack c r f l) (Ack d s g m) (Ack e v k n) h = h

ordered_united : (a b : Op) (rest : List Op) → NotAbove a b → Ordered b rest → Ordered (united a b) rest
ordered_united a b [] ab h = tt
ordered_united a b (y ∷ rest) ab h = (united_not_above a b y (weak.chain y b a h.0 ab), h.1)

-- equal names join
equal_joins : (a b : Op) → IsTrue (is_well_made a) → IsTrue (is_well_made b) → name_cmp a b ≡ Equal → joins a b ≡ true
equal_joins (OfSession c s i o) b ha hb e = ap is_eq e
equal_joins (OfPut c p) b ha hb e = ap is_eq e
equal_joins (OfRetain t k) b ha hb e = ap is_eq e
equal_joins (Ack c r f l) (OfSession d t j o) ha hb e = ap is_eq e
equal_joins (Ack c r f l) (OfPut d q) ha hb e = ap is_eq e
equal_joins (Ack c r f l) (OfRetain u k) ha hb e = ap is_eq e
equal_joins (Ack c r f l) (Ack d s g m) ha hb e =
    let h = share_equal (Ack c r f l) (Ack d s g m) ha hb e in
    let below = h.3 in
    near_joins c d r s f l g m (record { client = h.0; origin = h.1; near = omega arith })

below_apart : (a b : Op) → IsTrue (is_well_made a) → IsTrue (is_well_made b) → joins a b ≡ false → NotAbove a b → (o : Ordering) → name_cmp a b ≡ o → name_cmp a b ≡ Less
below_apart a b ha hb apart up Less e = e
below_apart a b ha hb apart up Equal e = absurd (both_ways (joins a b) apart (equal_joins a b ha hb e))
below_apart a b ha hb apart up Greater e =
    let back : name_cmp b a ≡ Less = name_total.antisymm b a ∙ ap ordering_reverse e in
    absurd (both_ways (is_lt (name_cmp b a)) up (ap is_lt back))

apart_before : (a b : Op) → joins a b ≡ false → name_cmp a b ≡ Less → IsBefore a b
apart_before (OfSession c s i o) b apart less = (less, tt)
apart_before (OfPut c p) b apart less = (less, tt)
apart_before (OfRetain t k) b apart less = (less, tt)
apart_before (Ack c r f l) (OfSession d t j o) apart less = (less, tt)
apart_before (Ack c r f l) (OfPut d q) apart less = (less, tt)
apart_before (Ack c r f l) (OfRetain u k) apart less = (less, tt)
apart_before (Ack c r f l) (Ack d s g m) apart less = (
  less,
  λ client origin. elim (cases_lt (l + 1) g) [
    | inl lt ↦ lt
    | inr le ↦ absurd (both_ways (joins (Ack c r f l) (Ack d s g m)) apart (near_joins c d r s f l g m (record { client = client; origin = origin; near = le })))
  ],
)

before : (a b : Op) → IsTrue (is_well_made a) → IsTrue (is_well_made b) → joins a b ≡ false → NotAbove a b → IsBefore a b
before a b ha hb apart up = apart_before a b apart (below_apart a b ha hb apart up (name_cmp a b) refl)

before_united : (a b y : Op) → IsBefore a b → IsBefore a (united b y)
before_united a (OfSession c s i o) y h = h
before_united a (OfPut c p) y h = h
before_united a (OfRetain t k) y h = h
before_united a (Ack c r f l) (OfSession d t j o) h = h
before_united a (Ack c r f l) (OfPut d q) h = h
before_united a (Ack c r f l) (OfRetain u k) h = h
before_united (OfSession e v k n) (Ack c r f l) (Ack d s g m) h = h
before_united (OfPut e v) (Ack c r f l) (Ack d s g m) h = h
before_united (OfRetain e v) (Ack c r f l) (Ack d s g m) h = h
before_united (Ack e v k n) (Ack c r f l) (Ack d s g m) h = h

ascending_behind : (a b : Op) (rest : List Op) → IsBefore a b → IsTrue (is_well_made b) → AreWellMade rest → Ordered b rest → IsAscending (a ∷ united_from b rest)
ascending_behind a b [] h hb made up = (h, tt)
ascending_behind a b (y ∷ rest) h hb made up =
    elim (cases_Bool (joins b y)) [
      | inl one ↦ rw one (ascending_behind a (united b y) rest (before_united a b y h) (united_made b y hb made.0) made.1 (ordered_united b y rest up.0 up.1))
      | inr apart ↦ rw apart (h, ascending_behind b y rest (before b y hb made.0 apart up.0) made.0 made.1 up.1)
    ]

ascending_from : (a : Op) (rest : List Op) → IsTrue (is_well_made a) → AreWellMade rest → Ordered a rest → IsAscending (united_from a rest)
ascending_from a [] ha made up = tt
ascending_from a (b ∷ rest) ha made up =
    elim (cases_Bool (joins a b)) [
      | inl one ↦ rw one (ascending_from (united a b) rest (united_made a b ha made.0) made.1 (ordered_united a b rest up.0 up.1))
      | inr apart ↦ rw apart (ascending_behind a b rest (before a b ha made.0 apart up.0) made.0 made.1 up.1)
    ]

abbrev InOrder : List Op → Type 0
InOrder xs = (k j : ℕ) (d : Op) → j ≡ suc k → j < length xs → NotAbove (get_or xs k d) (get_or xs j d)

ordered_from : (a : Op) (rest : List Op) → InOrder (a ∷ rest) → Ordered a rest
ordered_from a [] h = tt
ordered_from a (b ∷ rest) h = (h 0 1 a refl (omega arith), ordered_from b rest (λ k j d e lt. h (suc k) (suc j) d (ap suc e) (omega arith)))

abbrev pub IsSortedByName : List Op → Type 0
IsSortedByName xs = IsSortedBy (λ a b. is_lt (name_cmp a b)) xs

ordered_sorted : (a : Op) (rest : List Op) → IsSortedByName (a ∷ rest) → Ordered a rest
ordered_sorted a rest sorted =
    ordered_from a rest (λ k j d e lt.
    let next : k + 1 ≡ j = omega arith in
    subst (λ (m : ℕ). NotAbove (get_or (a ∷ rest) k d) (get_or (a ∷ rest) m d)) next (sorted k d (omega arith) (omega arith)))

before_past : (a b : Op) → Past 1 a b → IsBefore a b
before_past (OfSession c s i o) b p = (p.below, tt)
before_past (OfPut c u) b p = (p.below, tt)
before_past (OfRetain t k) b p = (p.below, tt)
before_past (Ack c r f l) (OfSession d t j o) p = (p.below, tt)
before_past (Ack c r f l) (OfPut d u) p = (p.below, tt)
before_past (Ack c r f l) (OfRetain u k) p = (p.below, tt)
before_past (Ack c r f l) (Ack d s g m) p = (p.below, p.clear)

pub past_before : (a b : Op) → IsBefore a b → Past 1 a b
past_before (OfSession c s i o) b p = record { below = p.0; clear = tt }
past_before (OfPut c u) b p = record { below = p.0; clear = tt }
past_before (OfRetain t k) b p = record { below = p.0; clear = tt }
past_before (Ack c r f l) (OfSession d t j o) p = record { below = p.0; clear = tt }
past_before (Ack c r f l) (OfPut d u) p = record { below = p.0; clear = tt }
past_before (Ack c r f l) (OfRetain u k) p = record { below = p.0; clear = tt }
past_before (Ack c r f l) (Ack d s g m) p = record { below = p.0; clear = p.1 }

pub ascending_rising : (xs : List Op) → Rising 1 xs → IsAscending xs
ascending_rising [] up = tt
ascending_rising (a ∷ []) up = tt
ascending_rising (a ∷ b ∷ rest) up = (before_past a b up.0.0, ascending_rising (b ∷ rest) up.1)

pub rising_ascending : (xs : List Op) → AreWellMade xs → IsAscending xs → Rising 1 xs
rising_ascending [] made up = tt
rising_ascending (a ∷ []) made up = (tt, tt)
rising_ascending (a ∷ b ∷ rest) made up =
    let more = rising_ascending (b ∷ rest) made.1 up.1 in
    let first = past_before a b up.0 in
    ((first, all_past 1 a b rest made.1.0 first more.0), more)

-- sorted and joined, they are a delta
pub delta_joined : (xs : List Op) → AreWellMade xs → IsSortedByName xs → IsDelta (joined_ops xs)
delta_joined [] made sorted = record { well_made = tt; ascending = tt }
delta_joined (a ∷ rest) made sorted = record { well_made = joined_made (a ∷ rest) made; ascending = ascending_from a rest made.0 made.1 (ordered_sorted a rest sorted) }

-- ---- the set

pub equal_is : (o : Ordering) → is_eq o ≡ true → o ≡ Equal
equal_is Less e = absurd cc
equal_is Equal e = refl
equal_is Greater e = absurd cc

-- two that join, in order
record IsPair (a b : Op) : Type 0 where
  one : joins a b ≡ true
  made_a : IsTrue (is_well_made a)
  made_b : IsTrue (is_well_made b)
  up : NotAbove a b

module _ {X : Type 0} (read : List Op → X) (behind : (a : Op) (S T : List Op) → read S ≡ read T → read (a ∷ S) ≡ read (a ∷ T))
    (pair : (a b : Op) (S : List Op) → IsPair a b → read (united a b ∷ S) ≡ read (a ∷ b ∷ S)) where
  read_from : (a : Op) (rest : List Op) → IsTrue (is_well_made a) → AreWellMade rest → Ordered a rest → read (united_from a rest) ≡ read (a ∷ rest)
  read_from a [] ha made up = refl
  read_from a (b ∷ rest) ha made up =
      elim (cases_Bool (joins a b)) [
        | inl one ↦ rw one (read_from (united a b) rest (united_made a b ha made.0) made.1 (ordered_united a b rest up.0 up.1)
            ∙ pair a b rest (record { one = one; made_a = ha; made_b = made.0; up = up.0 }))
        | inr apart ↦ rw apart (behind a (united_from b rest) (b ∷ rest) (read_from b rest made.0 made.1 up.1))
      ]

  read_joined : (xs : List Op) → AreWellMade xs → IsSortedByName xs → read (joined_ops xs) ≡ read xs
  read_joined [] made sorted = refl
  read_joined (a ∷ rest) made sorted = read_from a rest made.0 made.1 (ordered_sorted a rest sorted)

found_once : {V : Type 0} (q : Bool) (v w : V) (rest : Option V) → cond q (Some v) rest ≡ cond q (Some v) (cond q (Some w) rest)
found_once true v w rest = refl
found_once false v w rest = refl

-- of two operations of one name the first is read
operation_once : (c : List ℕ) (name : Stamp × ℕ) (d : List ℕ) (t : Stamp) (j : ℕ) (o p : SessionOp) (S : List Op)
    → operation_at c (OfSession d t j o ∷ S) name ≡ operation_at c (OfSession d t j o ∷ OfSession d t j p ∷ S) name
operation_once c name d t j o p S =
    elim (cases_Bool (same_client c d)) [
      | inl same ↦ rw same (found_once (is_eq (operation_cmp name (t, j))) o p (operation_at c S name))
      | inr other ↦ rw other refl
    ]

operation_pair : (c : List ℕ) (name : Stamp × ℕ) (a b : Op) (S : List Op) → IsPair a b → operation_at c (united a b ∷ S) name ≡ operation_at c (a ∷ b ∷ S) name
operation_pair c name (OfSession d t j o) (OfSession e u k p) S h =
    let share = share_equal (OfSession d t j o) (OfSession e u k p) h.made_a h.made_b (equal_is (name_cmp (OfSession d t j o) (OfSession e u k p)) h.one) in
    operation_once c name d t j o p S ∙ (λ i. operation_at c (OfSession d t j o ∷ OfSession (share.0 i) (share.1 i) (share.2 i) p ∷ S) name)
operation_pair c name (OfSession d t j o) (OfPut e q) S h = absurd (let wrong = h.one in cc)
operation_pair c name (OfSession d t j o) (Ack e s g m) S h = absurd (let wrong = h.one in cc)
operation_pair c name (OfSession d t j o) (OfRetain u l) S h = absurd (let wrong = h.one in cc)
operation_pair c name (OfPut d p) (OfSession e u k q) S h = absurd (let wrong = h.one in cc)
operation_pair c name (OfPut d p) (OfPut e q) S h = refl
operation_pair c name (OfPut d p) (Ack e s g m) S h = absurd (let wrong = h.one in cc)
operation_pair c name (OfPut d p) (OfRetain u l) S h = absurd (let wrong = h.one in cc)
operation_pair c name (Ack d r f l) (OfSession e u k q) S h = absurd (let wrong = h.one in cc)
operation_pair c name (Ack d r f l) (OfPut e q) S h = absurd (let wrong = h.one in cc)
operation_pair c name (Ack d r f l) (OfRetain u w) S h = absurd (let wrong = h.one in cc)
operation_pair c name (OfRetain v k) (OfSession e u i p) S h = absurd (let wrong = h.one in cc)
operation_pair c name (OfRetain v k) (OfPut e q) S h = absurd (let wrong = h.one in cc)
operation_pair c name (OfRetain v k) (Ack e s g m) S h = absurd (let wrong = h.one in cc)
operation_pair c name (OfRetain v k) (OfRetain u l) S h = refl
operation_pair c name (Ack d r f l) (Ack e s g m) S h = refl

put_once : (c : List ℕ) (name : ℕ × ℕ) (d e : List ℕ) (p q : Put) (S : List Op) → d ≡ e → p.origin ≡ q.origin → p.seq ≡ q.seq
    → put_at c (OfPut d p ∷ S) name ≡ put_at c (OfPut d p ∷ OfPut e q ∷ S) name
put_once c name d e p q S client origin seq =
    elim (cases_Bool (same_client c d)) [
      | inl same ↦ (let other : same_client c e ≡ true = ap (same_client c) (sym client) ∙ same in
          rw (same, other) (found_once (is_eq (put_cmp name (p.seq, p.origin))) p q (put_at c S name)
          ∙ (λ i. cond (is_eq (put_cmp name (p.seq, p.origin))) (Some p) (cond (is_eq (put_cmp name (seq i, origin i))) (Some q) (put_at c S name)))))
      | inr none ↦ (let other : same_client c e ≡ false = ap (same_client c) (sym client) ∙ none in rw (none, other) refl)
    ]

put_pair : (c : List ℕ) (name : ℕ × ℕ) (a b : Op) (S : List Op) → IsPair a b → put_at c (united a b ∷ S) name ≡ put_at c (a ∷ b ∷ S) name
put_pair c name (OfSession d t j o) (OfSession e u k p) S h = refl
put_pair c name (OfSession d t j o) (OfPut e q) S h = absurd (let wrong = h.one in cc)
put_pair c name (OfSession d t j o) (Ack e s g m) S h = absurd (let wrong = h.one in cc)
put_pair c name (OfSession d t j o) (OfRetain u l) S h = absurd (let wrong = h.one in cc)
put_pair c name (OfPut d p) (OfSession e u k q) S h = absurd (let wrong = h.one in cc)
put_pair c name (OfPut d p) (OfPut e q) S h =
    let share = share_equal (OfPut d p) (OfPut e q) h.made_a h.made_b (equal_is (name_cmp (OfPut d p) (OfPut e q)) h.one) in
    put_once c name d e p q S share.0 share.1 share.2
put_pair c name (OfPut d p) (Ack e s g m) S h = absurd (let wrong = h.one in cc)
put_pair c name (OfPut d p) (OfRetain u l) S h = absurd (let wrong = h.one in cc)
put_pair c name (Ack d r f l) (OfSession e u k q) S h = absurd (let wrong = h.one in cc)
put_pair c name (Ack d r f l) (OfPut e q) S h = absurd (let wrong = h.one in cc)
put_pair c name (Ack d r f l) (OfRetain u w) S h = absurd (let wrong = h.one in cc)
put_pair c name (OfRetain v k) (OfSession e u i p) S h = absurd (let wrong = h.one in cc)
put_pair c name (OfRetain v k) (OfPut e q) S h = absurd (let wrong = h.one in cc)
put_pair c name (OfRetain v k) (Ack e s g m) S h = absurd (let wrong = h.one in cc)
put_pair c name (OfRetain v k) (OfRetain u l) S h = refl
put_pair c name (Ack d r f l) (Ack e s g m) S h = refl

retain_once : (t : List ℕ) (name : ℕ × ℕ) (u v : List ℕ) (k l : Retained) (S : List Op) → u ≡ v → k.clock ≡ l.clock → k.gateway ≡ l.gateway
    → retain_at t (OfRetain u k ∷ S) name ≡ retain_at t (OfRetain u k ∷ OfRetain v l ∷ S) name
retain_once t name u v k l S topic clock gateway =
    elim (cases_Bool (same_topic t u)) [
      | inl same ↦ (let other : same_topic t v ≡ true = ap (same_topic t) (sym topic) ∙ same in
          rw (same, other) (found_once (is_eq (clock_cmp name (k.clock, k.gateway))) k l (retain_at t S name)
          ∙ (λ i. cond (is_eq (clock_cmp name (k.clock, k.gateway))) (Some k) (cond (is_eq (clock_cmp name (clock i, gateway i))) (Some l) (retain_at t S name)))))
      | inr none ↦ (let other : same_topic t v ≡ false = ap (same_topic t) (sym topic) ∙ none in rw (none, other) refl)
    ]

retain_pair : (t : List ℕ) (name : ℕ × ℕ) (a b : Op) (S : List Op) → IsPair a b → retain_at t (united a b ∷ S) name ≡ retain_at t (a ∷ b ∷ S) name
retain_pair t name (OfSession d s j o) (OfSession e u k p) S h = refl
retain_pair t name (OfSession d s j o) (OfPut e q) S h = absurd (let wrong = h.one in cc)
retain_pair t name (OfSession d s j o) (Ack e r g m) S h = absurd (let wrong = h.one in cc)
retain_pair t name (OfSession d s j o) (OfRetain u l) S h = absurd (let wrong = h.one in cc)
retain_pair t name (OfPut d p) (OfSession e u k q) S h = absurd (let wrong = h.one in cc)
retain_pair t name (OfPut d p) (OfPut e q) S h = refl
retain_pair t name (OfPut d p) (Ack e r g m) S h = absurd (let wrong = h.one in cc)
retain_pair t name (OfPut d p) (OfRetain u l) S h = absurd (let wrong = h.one in cc)
retain_pair t name (Ack d r f l) (OfSession e u k q) S h = absurd (let wrong = h.one in cc)
retain_pair t name (Ack d r f l) (OfPut e q) S h = absurd (let wrong = h.one in cc)
retain_pair t name (Ack d r f l) (Ack e s g m) S h = refl
retain_pair t name (Ack d r f l) (OfRetain u w) S h = absurd (let wrong = h.one in cc)
retain_pair t name (OfRetain v k) (OfSession e u i p) S h = absurd (let wrong = h.one in cc)
retain_pair t name (OfRetain v k) (OfPut e q) S h = absurd (let wrong = h.one in cc)
retain_pair t name (OfRetain v k) (Ack e s g m) S h = absurd (let wrong = h.one in cc)
retain_pair t name (OfRetain v k) (OfRetain u l) S h =
    let share = share_equal (OfRetain v k) (OfRetain u l) h.made_a h.made_b (equal_is (name_cmp (OfRetain v k) (OfRetain u l)) h.one) in
    retain_once t name v u k l S share.0 share.1 share.2

-- of two ranges the second does not begin before the first
begins : (c d : List ℕ) (r s f l g m : ℕ) → c ≡ d → r ≡ s → NotAbove (Ack c r f l) (Ack d s g m) → f ≤ g
begins c d r s f l g m client origin up =
    elim (cases_lt g f) [
      | inl lt ↦ absurd (
          let less : name_cmp (Ack d s g m) (Ack c r f l) ≡ Less = rw (same_client_cmp d c (sym client), same_nat s r (sym origin), less_nat g f lt) refl in
          both_ways (is_lt (name_cmp (Ack d s g m) (Ack c r f l))) up (ap is_lt less))
      | inr le ↦ le
    ]

-- two ranges that join are the whole from the first of one to the greater last
whole_range : (mine from : Bool) (f l g m seq : ℕ) → f ≤ l → g ≤ m → f ≤ g → g ≤ l + 1
    → (mine && from && nat_le f seq && nat_le seq (max l m)) ≡ ((mine && from && nat_le f seq && nat_le seq l) || (mine && from && nat_le g seq && nat_le seq m))
whole_range true true f l g m seq fl gm fg near = grind (arith, nat_tests)
whole_range true false f l g m seq fl gm fg near = refl
whole_range false from f l g m seq fl gm fg near = refl

or_regroup : (a b r : Bool) → ((a || b) || r) ≡ (a || (b || r))
or_regroup true b r = refl
or_regroup false b r = refl

acknowledged_pair : (c : List ℕ) (name : ℕ × ℕ) (a b : Op) (S : List Op) → IsPair a b → is_acknowledged c (united a b ∷ S) name ≡ is_acknowledged c (a ∷ b ∷ S) name
acknowledged_pair c name (OfSession d t j o) (OfSession e u k p) S h = refl
acknowledged_pair c name (OfSession d t j o) (OfPut e q) S h = absurd (let wrong = h.one in cc)
acknowledged_pair c name (OfSession d t j o) (Ack e s g m) S h = absurd (let wrong = h.one in cc)
acknowledged_pair c name (OfSession d t j o) (OfRetain u l) S h = absurd (let wrong = h.one in cc)
acknowledged_pair c name (OfPut d p) (OfSession e u k q) S h = absurd (let wrong = h.one in cc)
acknowledged_pair c name (OfPut d p) (OfPut e q) S h = refl
acknowledged_pair c name (OfPut d p) (Ack e s g m) S h = absurd (let wrong = h.one in cc)
acknowledged_pair c name (OfPut d p) (OfRetain u l) S h = absurd (let wrong = h.one in cc)
acknowledged_pair c name (Ack d r f l) (OfSession e u k q) S h = absurd (let wrong = h.one in cc)
acknowledged_pair c name (Ack d r f l) (OfPut e q) S h = absurd (let wrong = h.one in cc)
acknowledged_pair c name (Ack d r f l) (OfRetain u w) S h = absurd (let wrong = h.one in cc)
acknowledged_pair c name (OfRetain v k) (OfSession e u i p) S h = absurd (let wrong = h.one in cc)
acknowledged_pair c name (OfRetain v k) (OfPut e q) S h = absurd (let wrong = h.one in cc)
acknowledged_pair c name (OfRetain v k) (Ack e s g m) S h = absurd (let wrong = h.one in cc)
acknowledged_pair c name (OfRetain v k) (OfRetain u l) S h = refl
acknowledged_pair c name (Ack d r f l) (Ack e s g m) S h =
    let n = near_parts d e r s f l g m h.one in
    let x = made_range d r f l h.made_a in
    let y = made_range e s g m h.made_b in
    let first = begins d e r s f l g m n.client n.origin h.up in
    let whole = whole_range (same_client c d) (name.1 == r) f l g m name.0 x.forward y.forward first n.near in
    let second : acknowledges c name (Ack d r g m) ≡ acknowledges c name (Ack e s g m) = (λ i. acknowledges c name (Ack (n.client i) (n.origin i) g m)) in
    ap (λ (b : Bool). b || is_acknowledged c S name) (whole ∙ ap (λ (b : Bool). acknowledges c name (Ack d r f l) || b) second)
    ∙ or_regroup (acknowledges c name (Ack d r f l)) (acknowledges c name (Ack e s g m)) (is_acknowledged c S name)

-- ---- one more in front

pub operation_front : (c : List ℕ) (name : Stamp × ℕ) (a : Op) (S T : List Op) → operation_at c S name ≡ operation_at c T name → operation_at c (a ∷ S) name ≡ operation_at c (a ∷ T) name
operation_front c name (OfSession d t j o) S T e =
    elim (cases_Bool (same_client c d)) [
      | inl same ↦ rw same (ap (cond (is_eq (operation_cmp name (t, j))) (Some o)) e)
      | inr other ↦ rw other e
    ]
operation_front c name (OfPut d p) S T e = e
operation_front c name (Ack d r f l) S T e = e
operation_front c name (OfRetain u k) S T e = e

pub put_front : (c : List ℕ) (name : ℕ × ℕ) (a : Op) (S T : List Op) → put_at c S name ≡ put_at c T name → put_at c (a ∷ S) name ≡ put_at c (a ∷ T) name
put_front c name (OfSession d t j o) S T e = e
put_front c name (OfPut d p) S T e =
    elim (cases_Bool (same_client c d)) [
      | inl same ↦ rw same (ap (cond (is_eq (put_cmp name (p.seq, p.origin))) (Some p)) e)
      | inr other ↦ rw other e
    ]
put_front c name (Ack d r f l) S T e = e
put_front c name (OfRetain u k) S T e = e

pub retain_front : (t : List ℕ) (name : ℕ × ℕ) (a : Op) (S T : List Op) → retain_at t S name ≡ retain_at t T name → retain_at t (a ∷ S) name ≡ retain_at t (a ∷ T) name
retain_front t name (OfSession d s j o) S T e = e
retain_front t name (OfPut d p) S T e = e
retain_front t name (Ack d r f l) S T e = e
retain_front t name (OfRetain u k) S T e =
    elim (cases_Bool (same_topic t u)) [
      | inl same ↦ rw same (ap (cond (is_eq (clock_cmp name (k.clock, k.gateway))) (Some k)) e)
      | inr other ↦ rw other e
    ]

-- joining changes nothing about the set
pub same_joined : (xs : List Op) → AreWellMade xs → IsSortedByName xs → Same (joined_ops xs) xs
same_joined xs made sorted = record {
  operations_same = λ c name. read_joined (λ S. operation_at c S name) (operation_front c name) (operation_pair c name) xs made sorted;
  puts_same = λ c name. read_joined (λ S. put_at c S name) (put_front c name) (put_pair c name) xs made sorted;
  acknowledgements_same = λ c name. read_joined (λ S. is_acknowledged c S name) (λ a S T e. ap (λ (b : Bool). acknowledges c name a || b) e) (acknowledged_pair c name) xs made sorted;
  retains_same = λ t name. read_joined (λ S. retain_at t S name) (retain_front t name) (retain_pair t name) xs made sorted;
}
