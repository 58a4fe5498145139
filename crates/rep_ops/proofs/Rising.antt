-- Operations in the order of their names, each below all that follow.
use Rattle.std.proofs.Common.{◌≡◌, ℕ, zero, suc, ◌+◌, ◌<◌, true, false, List, [], ◌∷◌, length, get_or, refl, sym, ap, subst, ◌∙◌, inl, inr, arith, Some}
use Rattle.std.specs.Prelude.{IsTrue, slice_get}
use Rattle.std.specs.List.{AllByRecursion, AllAdjacentBelow}
use Rattle.std.specs.List.Sorted.{IsSortedBy}
use Rattle.std.specs.Ordering.{nat_cmp, ordering_then, ordering_reverse, is_lt}
use Rattle.std.specs.declared.cmp.Ordering.{Ordering}
use Rattle.std.specs.declared.cmp.Ordering.TheVariants.{Less, Equal, Greater}
use Rattle.std.proofs.lemmas.Bool.{cases_lt}
use Rattle.std.proofs.lemmas.Cmp.{nat_cmp_total, nat_list_cmp_total}
use Rattle.rep_op.specs.declared.op.Stamp.{Stamp}
use Rattle.rep_op.specs.declared.op.Op.{Op}
use Rattle.rep_op.specs.declared.op.Op.TheVariants.{Session as OfSession, Put as OfPut, Ack, Retain as OfRetain}
use Rattle.rep_op.specs.Orders.{ShareName, HasTwice, client_cmp, name_cmp}
use Rattle.rep_ops.specs.Making.{AreWellMade}
use Rattle.rep_op.specs.WellMade.{is_well_made}
use Rattle.rep_op.proofs.Names.{nat_equal, nat_less, client_equal, same_client_cmp, same_nat, then_less, then_between, name_total, made_range, share_equal}

-- ranges of one client and origin have more than k sequence numbers between them
abbrev pub IsClear : ℕ → Op → Op → Type 0
IsClear k (Ack c origin first last) (Ack d other start end) = c ≡ d → origin ≡ other → last + k < start
IsClear k a b = Unit {0}

pub record Past (k : ℕ) (a b : Op) : Type 0 where
  pub below : name_cmp a b ≡ Less
  pub clear : IsClear k a b

abbrev pub Rising : ℕ → List Op → Type 0
Rising k [] = Unit {0}
Rising k (a ∷ rest) = AllByRecursion (Past k a) rest × Rising k rest

pub all_weaker : (P Q : Op → Type 0) → ((x : Op) → P x → Q x) → (xs : List Op) → AllByRecursion P xs → AllByRecursion Q xs
all_weaker P Q w [] h = tt
all_weaker P Q w (x ∷ xs) h = (w x h.0, all_weaker P Q w xs h.1)

pub all_at : (P : Op → Type 0) (xs : List Op) (i : ℕ) (x : Op) → AllByRecursion P xs → slice_get xs i ≡ Some x → P x
all_at P [] i x h e = absurd cc
all_at P (y ∷ ys) zero x h e = let same : y ≡ x = cc in subst P same h.0
all_at P (y ∷ ys) (suc i) x h e = all_at P ys i x h.1 e

-- ---- from one to the next but one

clear_trans : (k : ℕ) (a b y : Op) → IsTrue (is_well_made b) → name_cmp a b ≡ Less → name_cmp b y ≡ Less → IsClear k a b → IsClear k b y → IsClear k a y
clear_trans k (OfSession c s i o) b y made ab by p q = tt
clear_trans k (OfPut c u) b y made ab by p q = tt
clear_trans k (OfRetain t u) b y made ab by p q = tt
clear_trans k (Ack c r f l) b (OfSession d t j o) made ab by p q = tt
clear_trans k (Ack c r f l) b (OfPut d u) made ab by p q = tt
clear_trans k (Ack c r f l) b (OfRetain t u) made ab by p q = tt
clear_trans k (Ack c r f l) (OfSession d t j o) (Ack e v g m) made ab by p q = absurd cc
clear_trans k (Ack c r f l) (OfPut d u) (Ack e v g m) made ab by p q = absurd cc
clear_trans k (Ack c r f l) (OfRetain t u) (Ack e v g m) made ab by p q = absurd cc
clear_trans k (Ack c r f l) (Ack d s h n) (Ack e v g m) made ab by p q =
    λ client origin.
    let to_c : name_cmp (Ack d s h n) (Ack c v g m) ≡ Less = subst (λ (x : List ℕ). name_cmp (Ack d s h n) (Ack x v g m) ≡ Less) (sym client) by in
    let to_r : name_cmp (Ack d s h n) (Ack c r g m) ≡ Less = subst (λ (x : ℕ). name_cmp (Ack d s h n) (Ack c x g m) ≡ Less) (sym origin) to_c in
    let t = then_between nat_list_cmp_total c d (ordering_then (nat_cmp r s) (nat_cmp f h)) (ordering_then (nat_cmp s r) (nat_cmp h g)) ab to_r in
    let u = then_between nat_cmp_total r s (nat_cmp f h) (nat_cmp h g) t.1 t.2 in
    let same_c : c ≡ d = client_equal c d t.0 in
    let same_r : r ≡ s = nat_equal r s u.0 in
    let one : l + k < h = p same_c same_r in
    let two : n + k < g = q (sym same_c ∙ client) (sym same_r ∙ origin) in
    let range = made_range d s h n made in
    omega arith

pub past_trans : (k : ℕ) (a b y : Op) → IsTrue (is_well_made b) → Past k a b → Past k b y → Past k a y
past_trans k a b y made p q = record { below = name_total.trans a b y p.below q.below; clear = clear_trans k a b y made p.below q.below p.clear q.clear }

pub all_past : (k : ℕ) (a b : Op) (rest : List Op) → IsTrue (is_well_made b) → Past k a b → AllByRecursion (Past k b) rest → AllByRecursion (Past k a) rest
all_past k a b rest made p h = all_weaker (Past k b) (Past k a) (λ y q. past_trans k a b y made p q) rest h

-- ---- names at one place

-- of two names where the second is past the first, neither client, origin nor first is the same all through
pub ack_below : (c d : List ℕ) (r s f l g m : ℕ) → name_cmp (Ack c r f l) (Ack d s g m) ≡ Less → c ≡ d → r ≡ s → f < g
ack_below c d r s f l g m e client origin =
    elim (then_less (client_cmp c d) (ordering_then (nat_cmp r s) (nat_cmp f g)) e) [
      | inl less ↦ absurd (let tied : client_cmp c d ≡ Equal = same_client_cmp c d client in cc)
      | inr tied ↦
          elim (then_less (nat_cmp r s) (nat_cmp f g) tied.1) [
            | inl less ↦ absurd (let same : nat_cmp r s ≡ Equal = same_nat r s origin in cc)
            | inr same ↦ nat_less f g same.1
          ]
    ]

-- what is past another shares no name with it
pub past_apart : (k : ℕ) (a b : Op) → Past k a b → ShareName a b → ⊥
past_apart k (OfSession c s i o) (OfSession d t j p) h e =
    let same : name_cmp (OfSession c s i o) (OfSession d t j p) ≡ Equal =
    rw (same_client_cmp c d e.0, same_nat s.epoch t.epoch (ap (λ (x : Stamp). x.epoch) e.1), same_nat s.gateway t.gateway (ap (λ (x : Stamp). x.gateway) e.1), same_nat i j e.2) refl in
    let less = h.below in cc
past_apart k (OfSession c s i o) (OfPut d q) h e = e
past_apart k (OfSession c s i o) (Ack d r first last) h e = e
past_apart k (OfSession c s i o) (OfRetain u l) h e = e
past_apart k (OfPut c p) (OfSession d t j o) h e = e
past_apart k (OfPut c p) (OfPut d q) h e =
    let same : name_cmp (OfPut c p) (OfPut d q) ≡ Equal =
    rw (same_client_cmp c d e.0, same_nat p.origin q.origin e.1, same_nat p.seq q.seq e.2) refl in
    let less = h.below in cc
past_apart k (OfPut c p) (Ack d r first last) h e = e
past_apart k (OfPut c p) (OfRetain u l) h e = e
past_apart k (Ack c r first last) (OfSession d t j o) h e = e
past_apart k (Ack c r first last) (OfPut d q) h e = e
past_apart k (Ack c r first last) (Ack d s start end) h e = let far : last + k < start = h.clear e.0 e.1 in let near = e.3 in omega arith
past_apart k (Ack c r first last) (OfRetain u l) h e = e
past_apart k (OfRetain t v) (OfSession d i j o) h e = e
past_apart k (OfRetain t v) (OfPut d q) h e = e
past_apart k (OfRetain t v) (Ack d r first last) h e = e
past_apart k (OfRetain t v) (OfRetain u l) h e =
    let same : name_cmp (OfRetain t v) (OfRetain u l) ≡ Equal =
    rw (same_client_cmp t u e.0, same_nat v.clock l.clock e.1, same_nat v.gateway l.gateway e.2) refl in
    let less = h.below in cc

rising_once : (k : ℕ) (S : List Op) → Rising k S → (i j : ℕ) (a b : Op) → i < j → slice_get S i ≡ Some a → slice_get S j ≡ Some b → ShareName a b → ⊥
rising_once k [] h i j a b lt p q e = absurd cc
rising_once k (x ∷ xs) h i zero a b lt p q e = absurd (omega arith)
rising_once k (x ∷ xs) h zero (suc j) a b lt p q e =
    let same : x ≡ a = cc in
    past_apart k a b (subst (λ (y : Op). Past k y b) same (all_at (Past k x) xs j b h.0 q)) e
rising_once k (x ∷ xs) h (suc i) (suc j) a b lt p q e = rising_once k xs h.1 i j a b (omega arith) p q e

pub rising_apart : (k : ℕ) (S : List Op) → Rising k S → ¬ (HasTwice S)
rising_apart k S h t = rising_once k S h t.0 t.1 t.2 t.3 t.4 t.5 t.6 t.7

-- ---- from neighbours

pub record IsNext (a b : Op) : Type 0 where
  pub not_above : is_lt (name_cmp b a) ≡ false
  pub once : ¬ (ShareName a b)

next_below : (a b : Op) → IsTrue (is_well_made a) → IsTrue (is_well_made b) → IsNext a b → (o : Ordering) → name_cmp a b ≡ o → name_cmp a b ≡ Less
next_below a b ha hb h Less e = e
next_below a b ha hb h Equal e = absurd (h.once (share_equal a b ha hb e))
next_below a b ha hb h Greater e =
    let back : name_cmp b a ≡ Less = name_total.antisymm b a ∙ ap ordering_reverse e in
    absurd (let wrong : true ≡ false = sym (ap is_lt back) ∙ h.not_above in cc)

next_clear : (a b : Op) → IsTrue (is_well_made a) → IsTrue (is_well_made b) → name_cmp a b ≡ Less → ¬ (ShareName a b) → IsClear 0 a b
next_clear (OfSession c s i o) b ha hb e h = tt
next_clear (OfPut c p) b ha hb e h = tt
next_clear (OfRetain t k) b ha hb e h = tt
next_clear (Ack c r f l) (OfSession d t j o) ha hb e h = tt
next_clear (Ack c r f l) (OfPut d q) ha hb e h = tt
next_clear (Ack c r f l) (OfRetain u k) ha hb e h = tt
next_clear (Ack c r f l) (Ack d s g m) ha hb e h =
    λ client origin.
    let up : f < g = ack_below c d r s f l g m e client origin in
    let range = made_range d s g m hb in
    elim (cases_lt l g) [
      | inl lt ↦ omega arith
      | inr le ↦ absurd (h (client, origin, omega arith, le))
    ]

pub next_past : (a b : Op) → IsTrue (is_well_made a) → IsTrue (is_well_made b) → IsNext a b → Past 0 a b
next_past a b ha hb h =
    let less = next_below a b ha hb h (name_cmp a b) refl in
    record { below = less; clear = next_clear a b ha hb less h.once }

abbrev Adjacent : List Op → Type 0
Adjacent xs = (k j : ℕ) (d : Op) → j ≡ suc k → j < length xs → IsNext (get_or xs k d) (get_or xs j d)

rising_adjacent : (xs : List Op) → AreWellMade xs → Adjacent xs → Rising 0 xs
rising_adjacent [] made next = tt
rising_adjacent (a ∷ []) made next = (tt, tt)
rising_adjacent (a ∷ b ∷ rest) made next =
    let more = rising_adjacent (b ∷ rest) made.1 (λ k j d e lt. next (suc k) (suc j) d (ap suc e) (omega arith)) in
    let ab = next_past a b made.0 made.1.0 (next 0 1 a refl (omega arith)) in
    ((ab, all_past 0 a b rest made.1.0 ab more.0), more)

-- sorted operations of which no two neighbours share a name rise
pub rising_from : (xs : List Op) → AreWellMade xs → IsSortedBy (λ a b. is_lt (name_cmp a b)) xs → AllAdjacentBelow (λ a b. ¬ (ShareName a b)) xs (length xs) → Rising 0 xs
rising_from xs made sorted once =
    rising_adjacent xs made (λ k j d e lt.
    let next : k + 1 ≡ j = omega arith in
    subst (λ (m : ℕ). IsNext (get_or xs k d) (get_or xs m d)) next (record { not_above = sorted k d (omega arith) (omega arith); once = once k d (omega arith) }))
