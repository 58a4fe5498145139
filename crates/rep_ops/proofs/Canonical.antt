-- A set has one delta.
use Rattle.std.proofs.Common.{◌≡◌, ℕ, ◌+◌, ◌<◌, ◌≤◌, true, List, [], ◌∷◌, Some, refl, sym, ap, subst, ◌∙◌, inl, inr, arith}
use Rattle.std.specs.Prelude.{IsTrue}
use Rattle.std.specs.List.{AllByRecursion}
use Rattle.std.specs.Ordering.{nat_cmp, ordering_then, ordering_reverse}
use Rattle.std.specs.declared.cmp.Ordering.{Ordering}
use Rattle.std.specs.declared.cmp.Ordering.TheVariants.{Less, Equal, Greater}
use Rattle.std.proofs.lemmas.Bool.{and_parts, and_from, leb-true, le-leb, eqb-true, eq-eqb, or_cases, or_right, cases_order}
use Rattle.std.proofs.lemmas.Slice.Eq.{bytes_eq-Decides}
use Rattle.sn_session.specs.declared.change.SessionOp.{SessionOp}
use Rattle.rep_op.specs.declared.op.Stamp.{Stamp}
use Rattle.rep_op.specs.declared.op.Put.{Put}
use Rattle.rep_op.specs.declared.op.Op.{Op}
use Rattle.rep_op.specs.declared.op.Retained.{Retained}
use Rattle.rep_op.specs.declared.op.Op.TheVariants.{Session as OfSession, Put as OfPut, Ack, Retain as OfRetain}
use Rattle.rep_ops.specs.Deltas.{IsDelta}
use Rattle.rep_op.specs.Orders.{HasTwice, client_cmp, name_cmp, operation_cmp, put_cmp, clock_cmp}
use Rattle.rep_ops.specs.Making.{AreWellMade}
use Rattle.rep_op.specs.Sets.{same_client, operation_of, put_of, acknowledges, is_acknowledged, retain_of, Same}
use Rattle.rep_op.specs.WellMade.{is_well_made}
use Rattle.rep_ops.proofs.Joined.{rising_ascending}
use Rattle.rep_op.proofs.Names.{name_total, name_irreflexive, made_range, then_equal, nat_equal, client_equal}
use Rattle.rep_ops.proofs.Rising.{Past, Rising, ack_below, rising_apart}
use Rattle.rep_op.proofs.Sets.{IsIn, find_in, find_of, operation_exact, put_exact, clock_exact, operation_shape, put_shape, retain_shape, operations_single, puts_single, retains_single, any_in, any_found, Same-sym}

-- ---- one list has what the other has

pub record Over (A B : List Op) : Type 0 where
  pub sessions : (c : List ℕ) (s : Stamp) (i : ℕ) (o : SessionOp) → IsIn (OfSession c s i o) A → IsIn (OfSession c s i o) B
  pub puts : (c : List ℕ) (p : Put) → IsIn (OfPut c p) A → IsIn (OfPut c p) B
  pub acks : (c : List ℕ) (name : ℕ × ℕ) → is_acknowledged c A name ≡ true → is_acknowledged c B name ≡ true
  pub retains : (t : List ℕ) (k : Retained) → IsIn (OfRetain t k) A → IsIn (OfRetain t k) B

same_itself : (c : List ℕ) → same_client c c ≡ true
same_itself c = (bytes_eq-Decides c c).1 refl

over_same : (A B : List Op) → ¬ (HasTwice A) → Same A B → Over A B
over_same A B once h = record {
  sessions = λ c s i o place.
      let here : operation_of c (OfSession c s i o) ≡ Some ((s, i), o) = rw (same_itself c) refl in
      let found = find_of operation_cmp operation_exact (operation_of c) (s, i) o A (λ y w p is. operations_single c A once y (OfSession c s i o) (s, i) w o p place is here) (OfSession c s i o) here place in
      let other = find_in operation_cmp operation_exact (operation_of c) (s, i) o B (sym (h.operations_same c (s, i)) ∙ found) in
      subst (λ (x : Op). IsIn x B) (operation_shape c other.0 (s, i) o other.2) other.1;
  puts = λ c p place.
      let here : put_of c (OfPut c p) ≡ Some ((p.seq, p.origin), p) = rw (same_itself c) refl in
      let found = find_of put_cmp put_exact (put_of c) (p.seq, p.origin) p A (λ y w q is. puts_single c A once y (OfPut c p) (p.seq, p.origin) w p q place is here) (OfPut c p) here place in
      let other = find_in put_cmp put_exact (put_of c) (p.seq, p.origin) p B (sym (h.puts_same c (p.seq, p.origin)) ∙ found) in
      subst (λ (x : Op). IsIn x B) (put_shape c other.0 (p.seq, p.origin) p other.2).0 other.1;
  acks = λ c name e. sym (h.acknowledgements_same c name) ∙ e;
  retains = λ t k place.
      let here : retain_of t (OfRetain t k) ≡ Some ((k.clock, k.gateway), k) = rw (same_itself t) refl in
      let found = find_of clock_cmp clock_exact (retain_of t) (k.clock, k.gateway) k A (λ y w q is. retains_single t A once y (OfRetain t k) (k.clock, k.gateway) w k q place is here) (OfRetain t k) here place in
      let other = find_in clock_cmp clock_exact (retain_of t) (k.clock, k.gateway) k B (sym (h.retains_same t (k.clock, k.gateway)) ∙ found) in
      subst (λ (x : Op). IsIn x B) (retain_shape t other.0 (k.clock, k.gateway) k other.2).0 other.1;
}

-- ---- what covers an acknowledgement

pub record Covers (c d : List ℕ) (origin r f l seq : ℕ) : Type 0 where
  pub client : c ≡ d
  pub origin_is : origin ≡ r
  pub from : f ≤ seq
  pub upto : seq ≤ l

covers : (c d : List ℕ) (name : ℕ × ℕ) (r f l : ℕ) → acknowledges c name (Ack d r f l) ≡ true → Covers c d name.1 r f l name.0
covers c d name r f l e =
    let x = and_parts _ _ e in
    let y = and_parts _ _ x.0 in
    let z = and_parts _ _ y.0 in
    record { client = (bytes_eq-Decides c d).0 z.0; origin_is = eqb-true _ _ z.1; from = leb-true _ _ y.1; upto = leb-true _ _ x.1 }

covered : (c : List ℕ) (r f l seq : ℕ) → f ≤ seq → seq ≤ l → acknowledges c (seq, r) (Ack c r f l) ≡ true
covered c r f l seq from upto = and_from _ _ (and_from _ _ (and_from _ _ (same_itself c) (eq-eqb r r refl)) (le-leb f seq from)) (le-leb seq l upto)

all_in : (P : Op → Type 0) (y : Op) (xs : List Op) → AllByRecursion P xs → IsIn y xs → P y
all_in P y [] h place = absurd place
all_in P y (x ∷ xs) h place = elim place [ inl same ↦ subst P same h.0 | inr behind ↦ all_in P y xs h.1 behind ]

-- what is below the first is below all
below_all : (a b y : Op) (us : List Op) → AllByRecursion (Past 1 a) us → name_cmp b a ≡ Less → IsIn y (a ∷ us) → name_cmp b y ≡ Less
below_all a b y us past less place =
    elim place [
      | inl same ↦ subst (λ (x : Op). name_cmp b x ≡ Less) same less
      | inr behind ↦ name_total.trans b a y less (all_in (Past 1 a) y us past behind).below
    ]

-- what acknowledges it, and how far it goes
ack_of : (c : List ℕ) (name : ℕ × ℕ) (y : Op) → acknowledges c name y ≡ true → (f : ℕ) × (l : ℕ) × (y ≡ Ack c name.1 f l) × (f ≤ name.0) × (name.0 ≤ l)
ack_of c name (OfSession d t j o) e = absurd cc
ack_of c name (OfPut d q) e = absurd cc
ack_of c name (OfRetain t k) e = absurd cc
ack_of c name (Ack d r f l) e = let h = covers c d name r f l e in (f, l, (λ i. Ack (sym h.client i) (sym h.origin_is i) f l), h.from, h.upto)

-- the first of the one is not below the first of the other
not_below : (a b : Op) (us vs : List Op) → IsTrue (is_well_made b) → AllByRecursion (Past 1 a) us → Over (b ∷ vs) (a ∷ us) → name_cmp b a ≡ Less → ⊥
not_below a (OfSession c s i o) us vs made past over less =
    name_irreflexive (OfSession c s i o) (below_all a (OfSession c s i o) (OfSession c s i o) us past less (over.sessions c s i o (inl refl)))
not_below a (OfPut c p) us vs made past over less =
    name_irreflexive (OfPut c p) (below_all a (OfPut c p) (OfPut c p) us past less (over.puts c p (inl refl)))
not_below a (OfRetain t k) us vs made past over less =
    name_irreflexive (OfRetain t k) (below_all a (OfRetain t k) (OfRetain t k) us past less (over.retains t k (inl refl)))
not_below a (Ack d s g m) us vs made past over less =
    let range = made_range d s g m made in
    let there = over.acks d (g, s) (any_in (acknowledges d (g, s)) (Ack d s g m) (Ack d s g m ∷ vs) (covered d s g m g (omega arith) range.forward) (inl refl)) in
    let y = any_found (acknowledges d (g, s)) (a ∷ us) there in
    let k = ack_of d (g, s) y.0 y.2 in
    let low = below_all a (Ack d s g m) y.0 us past less y.1 in
    let up = ack_below d d s s g m k.0 k.1 (subst (λ (x : Op). name_cmp (Ack d s g m) x ≡ Less) k.2 low) refl refl in
    let from = k.3 in
    omega arith

-- the first range does not end before a range that begins with it
not_shorter : (c : List ℕ) (r f l m : ℕ) (us vs : List Op) → f ≤ l → AllByRecursion (Past 1 (Ack c r f l)) us → Over (Ack c r f m ∷ vs) (Ack c r f l ∷ us) → l < m → ⊥
not_shorter c r f l m us vs forward past over lt =
    let there = over.acks c (l + 1, r) (any_in (acknowledges c (l + 1, r)) (Ack c r f m) (Ack c r f m ∷ vs) (covered c r f m (l + 1) (omega arith) (omega arith)) (inl refl)) in
    let y = any_found (acknowledges c (l + 1, r)) (Ack c r f l ∷ us) there in
    let k = ack_of c (l + 1, r) y.0 y.2 in
    let from = k.3 in
    let upto = k.4 in
    elim y.1 [
      | inl same ↦ (let both : Ack c r f l ≡ Ack c r k.0 k.1 = same ∙ k.2 in let last : l ≡ k.1 = cc in omega arith)
      | inr behind ↦ (
          let h = all_in (Past 1 (Ack c r f l)) y.0 us past behind in
          let at = subst (λ (x : Op). Past 1 (Ack c r f l) x) k.2 h in
          let far : l + 1 < k.0 = at.clear refl refl in
          omega arith)
    ]

-- ranges of one first are one
same_range : (c d : List ℕ) (r s f g l m : ℕ) (us vs : List Op) → c ≡ d → r ≡ s → f ≡ g → f ≤ l → g ≤ m
    → AllByRecursion (Past 1 (Ack c r f l)) us → AllByRecursion (Past 1 (Ack d s g m)) vs
    → Over (Ack c r f l ∷ us) (Ack d s g m ∷ vs) → Over (Ack d s g m ∷ vs) (Ack c r f l ∷ us) → Ack c r f l ≡ Ack d s g m
same_range c d r s f g l m us vs client origin first fl gm pa pb over back =
    let pc = subst (λ (x : List ℕ). AllByRecursion (Past 1 (Ack x s g m)) vs) (sym client) pb in
    let pr = subst (λ (x : ℕ). AllByRecursion (Past 1 (Ack c x g m)) vs) (sym origin) pc in
    let pf = subst (λ (x : ℕ). AllByRecursion (Past 1 (Ack c r x m)) vs) (sym first) pr in
    let renamed : Ack d s g m ≡ Ack c r f m = λ i. Ack (sym client i) (sym origin i) (sym first i) m in
    let over' = subst (λ (x : Op). Over (Ack c r f l ∷ us) (x ∷ vs)) renamed over in
    let back' = subst (λ (x : Op). Over (x ∷ vs) (Ack c r f l ∷ us)) renamed back in
    elim (cases_order l m) [
      | inl last ↦ (λ i. Ack (client i) (origin i) (first i) (last i))
      | inr apart ↦ elim apart [
        | inl lt ↦ absurd (not_shorter c r f l m us vs fl pa back' lt)
        | inr gt ↦ absurd (not_shorter c r f m l vs us (omega arith) pf over' gt)
      ]
    ]

-- first ones of one name are one
same_first : (a b : Op) (us vs : List Op) → IsTrue (is_well_made a) → IsTrue (is_well_made b) → AllByRecursion (Past 1 a) us → AllByRecursion (Past 1 b) vs
    → Over (a ∷ us) (b ∷ vs) → Over (b ∷ vs) (a ∷ us) → name_cmp a b ≡ Equal → a ≡ b
same_first a (OfSession d t j o) us vs ha hb pa pb over back e =
    elim (back.sessions d t j o (inl refl)) [ inl same ↦ same | inr behind ↦ absurd (let less = (all_in (Past 1 a) (OfSession d t j o) us pa behind).below in cc) ]
same_first a (OfPut d q) us vs ha hb pa pb over back e =
    elim (back.puts d q (inl refl)) [ inl same ↦ same | inr behind ↦ absurd (let less = (all_in (Past 1 a) (OfPut d q) us pa behind).below in cc) ]
same_first a (OfRetain t k) us vs ha hb pa pb over back e =
    elim (back.retains t k (inl refl)) [ inl same ↦ same | inr behind ↦ absurd (let less = (all_in (Past 1 a) (OfRetain t k) us pa behind).below in cc) ]
same_first (OfSession c s i o) (Ack d r g m) us vs ha hb pa pb over back e = absurd cc
same_first (OfPut c p) (Ack d r g m) us vs ha hb pa pb over back e = absurd cc
same_first (OfRetain t k) (Ack d r g m) us vs ha hb pa pb over back e = absurd cc
same_first (Ack c r f l) (Ack d s g m) us vs ha hb pa pb over back e =
    let x = then_equal (client_cmp c d) (ordering_then (nat_cmp r s) (nat_cmp f g)) e in
    let y = then_equal (nat_cmp r s) (nat_cmp f g) x.1 in
    let client : c ≡ d = client_equal c d x.0 in
    let origin : r ≡ s = nat_equal r s y.0 in
    let first : f ≡ g = nat_equal f g y.1 in
    same_range c d r s f g l m us vs client origin first (made_range c r f l ha).forward (made_range d s g m hb).forward pa pb over back

-- ---- what is after

both_cover : (c : List ℕ) (name : ℕ × ℕ) (a y : Op) → Past 1 a y → acknowledges c name a ≡ true → acknowledges c name y ≡ true → ⊥
both_cover c name (OfSession d t j o) y past ea ey = absurd cc
both_cover c name (OfPut d q) y past ea ey = absurd cc
both_cover c name (OfRetain t k) y past ea ey = absurd cc
both_cover c name (Ack d r f l) (OfSession e t j o) past ea ey = absurd cc
both_cover c name (Ack d r f l) (OfPut e q) past ea ey = absurd cc
both_cover c name (Ack d r f l) (OfRetain u k) past ea ey = absurd cc
both_cover c name (Ack d r f l) (Ack e s g m) past ea ey =
    let x = covers c d name r f l ea in
    let y = covers c e name s g m ey in
    let far : l + 1 < g = past.clear (sym x.client ∙ y.client) (sym x.origin_is ∙ y.origin_is) in
    omega arith

over_behind : (a : Op) (us vs : List Op) → AllByRecursion (Past 1 a) us → Over (a ∷ us) (a ∷ vs) → Over us vs
over_behind a us vs past over = record {
  sessions = λ c s i o place. elim (over.sessions c s i o (inr place)) [
    | inl same ↦ absurd (name_irreflexive a (subst (λ (x : Op). name_cmp a x ≡ Less) (sym same) (all_in (Past 1 a) (OfSession c s i o) us past place).below))
    | inr behind ↦ behind
  ];
  puts = λ c p place. elim (over.puts c p (inr place)) [
    | inl same ↦ absurd (name_irreflexive a (subst (λ (x : Op). name_cmp a x ≡ Less) (sym same) (all_in (Past 1 a) (OfPut c p) us past place).below))
    | inr behind ↦ behind
  ];
  acks = λ c name e. elim (or_cases (acknowledges c name a) (is_acknowledged c vs name) (over.acks c name (or_right (acknowledges c name a) (is_acknowledged c us name) e))) [
    | inl here ↦ absurd (let y = any_found (acknowledges c name) us e in both_cover c name a y.0 (all_in (Past 1 a) y.0 us past y.1) here y.2)
    | inr behind ↦ behind
  ];
  retains = λ t k place. elim (over.retains t k (inr place)) [
    | inl same ↦ absurd (name_irreflexive a (subst (λ (x : Op). name_cmp a x ≡ Less) (sym same) (all_in (Past 1 a) (OfRetain t k) us past place).below))
    | inr behind ↦ behind
  ];
}

nothing_over : (b : Op) (vs : List Op) → IsTrue (is_well_made b) → Over (b ∷ vs) [] → ⊥
nothing_over (OfSession c s i o) vs made over = over.sessions c s i o (inl refl)
nothing_over (OfPut c p) vs made over = over.puts c p (inl refl)
nothing_over (OfRetain t k) vs made over = over.retains t k (inl refl)
nothing_over (Ack d s g m) vs made over =
    let range = made_range d s g m made in
    let there = over.acks d (g, s) (any_in (acknowledges d (g, s)) (Ack d s g m) (Ack d s g m ∷ vs) (covered d s g m g (omega arith) range.forward) (inl refl)) in
    absurd cc

same_name : (a b : Op) → (name_cmp a b ≡ Less → ⊥) → (name_cmp b a ≡ Less → ⊥) → (o : Ordering) → name_cmp a b ≡ o → name_cmp a b ≡ Equal
same_name a b up down Less e = absurd (up e)
same_name a b up down Equal e = e
same_name a b up down Greater e = absurd (down (name_total.antisymm b a ∙ ap ordering_reverse e))

unique : (A B : List Op) → AreWellMade A → AreWellMade B → Rising 1 A → Rising 1 B → Over A B → Over B A → A ≡ B
unique [] [] ha hb ua ub over back = refl
unique [] (b ∷ vs) ha hb ua ub over back = absurd (nothing_over b vs hb.0 back)
unique (a ∷ us) [] ha hb ua ub over back = absurd (nothing_over a us ha.0 over)
unique (a ∷ us) (b ∷ vs) ha hb ua ub over back =
    let name = same_name a b (λ e. not_below b a vs us ha.0 ub.0 over e) (λ e. not_below a b us vs hb.0 ua.0 back e) (name_cmp a b) refl in
    let first = same_first a b us vs ha.0 hb.0 ua.0 ub.0 over back name in
    let over' = subst (λ (x : Op). Over (a ∷ us) (x ∷ vs)) (sym first) over in
    let back' = subst (λ (x : Op). Over (x ∷ vs) (a ∷ us)) (sym first) back in
    let past : AllByRecursion (Past 1 a) vs = subst (λ (x : Op). AllByRecursion (Past 1 x) vs) (sym first) ub.0 in
    let rest = unique us vs ha.1 hb.1 ua.1 ub.1 (over_behind a us vs ua.0 over') (over_behind a vs us past back') in
    (λ i. first i ∷ rest i)

pub one_delta : (A B : List Op) → IsDelta A → IsDelta B → Same A B → A ≡ B
one_delta A B da db same =
    let ua = rising_ascending A da.well_made da.ascending in
    let ub = rising_ascending B db.well_made db.ascending in
    unique A B da.well_made db.well_made ua ub (over_same A B (rising_apart 1 A ua) same) (over_same B A (rising_apart 1 B ub) (Same-sym A B same))
