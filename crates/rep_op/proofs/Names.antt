-- The order of names: it is total, and equal names are shared.
use Rattle.std.proofs.Common.{◌≡◌, ℕ, ◌<◌, ◌≤◌, List, refl, sym, ap, subst, ◌∙◌, inl, inr, ◌⊎◌, arith}
use Rattle.std.specs.Prelude.{IsTrue}
use Rattle.std.specs.Cmp.{IsTotalOrder, nat_cmp_is}
use Rattle.std.specs.Ordering.{nat_cmp, ordering_then, ordering_reverse, then_cmp, on, is_eq, MatchOrdering}
use Rattle.std.specs.declared.cmp.Ordering.{Ordering}
use Rattle.std.specs.declared.cmp.Ordering.TheVariants.{Less, Equal, Greater}
use Rattle.std.proofs.lemmas.Cmp.{nat_cmp_total, nat_list_cmp_total, on_total, then_total, ranked, tied_itself}
use Rattle.std.proofs.lemmas.Map.Text.{is_eq-slice_cmp}
use Rattle.std.proofs.lemmas.Slice.Eq.{bytes_eq-Decides}
use Rattle.rep_op.specs.declared.op.Stamp.{Stamp}
use Rattle.rep_op.specs.declared.op.Op.{Op}
use Rattle.rep_op.specs.declared.op.Op.TheVariants.{Session as OfSession, Put as OfPut, Ack, Retain as OfRetain}
use Rattle.rep_op.specs.Orders.{ShareName, client_cmp, stamp_cmp, operation_cmp, topic_name_cmp, clock_cmp, clock_of, name_cmp}
use Rattle.rep_op.specs.WellMade.{is_well_made}

-- ---- numbers and clients

pub nat_equal : (a b : ℕ) → nat_cmp a b ≡ Equal → a ≡ b
nat_equal a b e = subst (λ (r : Ordering). MatchOrdering r (a < b) (a ≡ b) (b < a)) e (ranked a b (nat_cmp a b) refl)

pub nat_less : (a b : ℕ) → nat_cmp a b ≡ Less → a < b
nat_less a b e = subst (λ (r : Ordering). MatchOrdering r (a < b) (a ≡ b) (b < a)) e (ranked a b (nat_cmp a b) refl)

pub less_nat : (a b : ℕ) → a < b → nat_cmp a b ≡ Less
less_nat a b h = sym (nat_cmp_is a b Less h)

pub same_nat : (a b : ℕ) → a ≡ b → nat_cmp a b ≡ Equal
same_nat a b h = sym (nat_cmp_is a b Equal h)

pub client_equal : (c d : List ℕ) → client_cmp c d ≡ Equal → c ≡ d
client_equal c d e = (bytes_eq-Decides c d).0 (sym (is_eq-slice_cmp c d) ∙ ap is_eq e)

pub same_client_cmp : (c d : List ℕ) → c ≡ d → client_cmp c d ≡ Equal
same_client_cmp c d e = subst (λ (x : List ℕ). client_cmp c x ≡ Equal) e (tied_itself nat_list_cmp_total c)

-- ---- one order after another

pub then_less : (o p : Ordering) → ordering_then o p ≡ Less → (o ≡ Less) ⊎ ((o ≡ Equal) × (p ≡ Less))
then_less Less p e = inl refl
then_less Equal p e = inr (refl, e)
then_less Greater p e = absurd cc

pub then_equal : (o p : Ordering) → ordering_then o p ≡ Equal → (o ≡ Equal) × (p ≡ Equal)
then_equal Less p e = absurd cc
then_equal Equal p e = (refl, e)
then_equal Greater p e = absurd cc

-- one is below the other and the other below the one: so it is by what follows
pub then_between : {K : Type 0} {R : K → K → Ordering} (o : IsTotalOrder R) (x y : K) (p q : Ordering) → ordering_then (R x y) p ≡ Less → ordering_then (R y x) q ≡ Less
    → (R x y ≡ Equal) × (p ≡ Less) × (q ≡ Less)
then_between {R} o x y p q below above =
    elim (then_less (R x y) p below) [
      | inl less ↦
          let back : R y x ≡ Greater = o.antisymm y x ∙ ap ordering_reverse less in
          absurd (let e : Greater ≡ Less = subst (λ (r : Ordering). ordering_then r q ≡ Less) back above in cc)
      | inr tied ↦
          let back : R y x ≡ Equal = o.antisymm y x ∙ ap ordering_reverse tied.0 in
          (tied.0, tied.1, subst (λ (r : Ordering). ordering_then r q ≡ Less) back above)
    ]

-- ---- names

-- the parts of a name, as numbers
abbrev kind_of : Op → ℕ
kind_of (OfSession client stamp counter change) = 1
kind_of (OfPut client put) = 2
kind_of (Ack client origin first last) = 3
kind_of (OfRetain topic kept) = 4

-- the client's or the topic's octets
abbrev owner_of : Op → List ℕ
owner_of (OfSession client stamp counter change) = client
owner_of (OfPut client put) = client
owner_of (Ack client origin first last) = client
owner_of (OfRetain topic kept) = topic

abbrev first_of : Op → ℕ
first_of (OfSession client stamp counter change) = stamp.epoch
first_of (OfPut client put) = 0
first_of (Ack client origin first last) = 0
first_of (OfRetain topic kept) = 0

abbrev second_of : Op → ℕ
second_of (OfSession client stamp counter change) = stamp.gateway
second_of (OfPut client put) = put.origin
second_of (Ack client origin first last) = origin
second_of (OfRetain topic kept) = kept.clock

abbrev third_of : Op → ℕ
third_of (OfSession client stamp counter change) = counter
third_of (OfPut client put) = put.seq
third_of (Ack client origin first last) = first
third_of (OfRetain topic kept) = kept.gateway

abbrev key_cmp : Op → Op → Ordering
key_cmp = then_cmp (on kind_of nat_cmp) (then_cmp (on owner_of client_cmp) (then_cmp (then_cmp (on first_of nat_cmp) (on second_of nat_cmp)) (on third_of nat_cmp)))

by_key : (a b : Op) → key_cmp a b ≡ name_cmp a b
by_key (OfSession c s i o) (OfSession d t j p) = refl
by_key (OfSession c s i o) (OfPut d q) = refl
by_key (OfSession c s i o) (Ack d r first last) = refl
by_key (OfSession c s i o) (OfRetain u l) = refl
by_key (OfPut c p) (OfSession d t j o) = refl
by_key (OfPut c p) (OfPut d q) = refl
by_key (OfPut c p) (Ack d r first last) = refl
by_key (OfPut c p) (OfRetain u l) = refl
by_key (Ack c r first last) (OfSession d t j o) = refl
by_key (Ack c r first last) (OfPut d q) = refl
by_key (Ack c r first last) (Ack d s start end) = refl
by_key (Ack c r first last) (OfRetain u l) = refl
by_key (OfRetain t k) (OfSession d i j o) = refl
by_key (OfRetain t k) (OfPut d q) = refl
by_key (OfRetain t k) (Ack d r first last) = refl
by_key (OfRetain t k) (OfRetain u l) = refl

pub name_total : IsTotalOrder name_cmp
name_total =
    let key_total : IsTotalOrder key_cmp =
    then_total (on_total kind_of nat_cmp_total) (then_total (on_total owner_of nat_list_cmp_total)
    (then_total (then_total (on_total first_of nat_cmp_total) (on_total second_of nat_cmp_total)) (on_total third_of nat_cmp_total))) in
    subst IsTotalOrder (λ i a b. by_key a b i) key_total

-- no name is below itself
pub name_irreflexive : (a : Op) → name_cmp a a ≡ Less → ⊥
name_irreflexive a e = let same : name_cmp a a ≡ Equal = tied_itself name_total a in absurd cc

-- two names are not below each other
pub name_one_way : (a b : Op) → name_cmp a b ≡ Less → name_cmp b a ≡ Less → ⊥
name_one_way a b p q = name_irreflexive a (name_total.trans a b a p q)

-- ---- what a well made range is

pub record IsRange (origin first last : ℕ) : Type 0 where
  pub origin_there : 1 ≤ origin
  pub first_there : 1 ≤ first
  pub forward : first ≤ last

pub made_range : (c : List ℕ) (origin first last : ℕ) → IsTrue (is_well_made (Ack c origin first last)) → IsRange origin first last
made_range c origin first last h = grind (arith)

pub range_made : (c : List ℕ) (origin first last : ℕ) → IsRange origin first last → IsTrue (is_well_made (Ack c origin first last))
range_made c origin first last h = grind (arith)

pub same_stamp : (s t : Stamp) → s.epoch ≡ t.epoch → s.gateway ≡ t.gateway → s ≡ t
same_stamp s t p q = λ i. record { epoch = p i; gateway = q i }

-- operations of equal names share their name
pub share_equal : (a b : Op) → IsTrue (is_well_made a) → IsTrue (is_well_made b) → name_cmp a b ≡ Equal → ShareName a b
share_equal (OfSession c s i o) (OfSession d t j p) ha hb e =
    let x = then_equal (client_cmp c d) (operation_cmp (s, i) (t, j)) e in
    let y = then_equal (stamp_cmp s t) (nat_cmp i j) x.1 in
    let z = then_equal (nat_cmp s.epoch t.epoch) (nat_cmp s.gateway t.gateway) y.0 in
    (client_equal c d x.0, same_stamp s t (nat_equal _ _ z.0) (nat_equal _ _ z.1), nat_equal i j y.1)
share_equal (OfSession c s i o) (OfPut d q) ha hb e = absurd cc
share_equal (OfSession c s i o) (Ack d r first last) ha hb e = absurd cc
share_equal (OfSession c s i o) (OfRetain u l) ha hb e = absurd cc
share_equal (OfPut c p) (OfSession d t j o) ha hb e = absurd cc
share_equal (OfPut c p) (OfPut d q) ha hb e =
    let x = then_equal (client_cmp c d) (ordering_then (nat_cmp p.origin q.origin) (nat_cmp p.seq q.seq)) e in
    let y = then_equal (nat_cmp p.origin q.origin) (nat_cmp p.seq q.seq) x.1 in
    (client_equal c d x.0, nat_equal _ _ y.0, nat_equal _ _ y.1)
share_equal (OfPut c p) (Ack d r first last) ha hb e = absurd cc
share_equal (OfPut c p) (OfRetain u l) ha hb e = absurd cc
share_equal (Ack c r first last) (OfSession d t j o) ha hb e = absurd cc
share_equal (Ack c r first last) (OfPut d q) ha hb e = absurd cc
share_equal (Ack c r first last) (Ack d s start end) ha hb e =
    let p = then_equal (client_cmp c d) (ordering_then (nat_cmp r s) (nat_cmp first start)) e in
    let q = then_equal (nat_cmp r s) (nat_cmp first start) p.1 in
    let begins : first ≡ start = nat_equal first start q.1 in
    let x = made_range c r first last ha in
    let y = made_range d s start end hb in
    (client_equal c d p.0, nat_equal r s q.0, omega arith, omega arith)
share_equal (Ack c r first last) (OfRetain u l) ha hb e = absurd cc
share_equal (OfRetain t k) (OfSession d i j o) ha hb e = absurd cc
share_equal (OfRetain t k) (OfPut d q) ha hb e = absurd cc
share_equal (OfRetain t k) (Ack d r first last) ha hb e = absurd cc
share_equal (OfRetain t k) (OfRetain u l) ha hb e =
    let x = then_equal (topic_name_cmp t u) (clock_cmp (clock_of k) (clock_of l)) e in
    let y = then_equal (nat_cmp k.clock l.clock) (nat_cmp k.gateway l.gateway) x.1 in
    (client_equal t u x.0, nat_equal _ _ y.0, nat_equal _ _ y.1)
