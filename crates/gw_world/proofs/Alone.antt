-- An operation stands in a list where no other of the list has its name.
use Rattle.std.proofs.Common.{◌≡◌, ℕ, ◌≤◌, true, List, ◌++◌, Option, Some, None, is_some, IfSome, Contains, refl, sym, ap, ◌∙◌, true≢false, eq-eqb, le-leb, slice_get, inl, inr}
use Rattle.std.proofs.lemmas.Bool.{and_from, or_right, cases_order}
use Rattle.std.proofs.lemmas.Option.{slice_get-get_or, slice_get_within, get_or_from_slice_get}
use Rattle.sn_session.specs.declared.change.SessionOp.{SessionOp}
use Rattle.rep_op.specs.declared.op.Stamp.{Stamp}
use Rattle.rep_op.specs.declared.op.Put.{Put}
use Rattle.rep_op.specs.declared.op.Op.{Op}
use Rattle.rep_op.specs.declared.op.Op.TheVariants.{Session as OfSession, Put as OfPut, Ack, Retain as OfRetain}
use Rattle.rep_op.specs.declared.op.Retained.{Retained}
use Rattle.rep_op.specs.Orders.{ShareName, HasTwice, clock_of}
use Rattle.rep_ops.specs.Deltas.{IsDelta}
use Rattle.rep_op.specs.Sets.{operation_at, put_at, acknowledges, is_acknowledged, retain_at, HasOperation, Agrees}
use Rattle.rep_ops.proofs.Joined.{rising_ascending}
use Rattle.rep_ops.proofs.Rising.{rising_apart}
use Rattle.rep_op.proofs.Sets.{IsIn, at_in, any_in, one_of_name}
use Rattle.rep_model.proofs.Joins.{within-left}
use Rattle.rep_model.proofs.Readers.{operation_at_both, put_at_both, is_acknowledged_both, retain_at_both}
use Rattle.sn_plan.specs.Own.{IsFreshName}
use Rattle.sn_local.proofs.Entries.{same_client-itself, none_or}
use Rattle.gw_event.specs.Event.{HaveName}
use Rattle.gw_node.proofs.Occurring.{is_there, operation_occurs, put_occurs, retain_occurs}

pub some-is : {X : Type 0} (o : Option X) → is_some o ≡ true → (x : X) × (o ≡ Some x)
some-is None h = absurd (true≢false (sym h))
some-is (Some x) h = (x, refl)

-- whatever of the list has the operation's name is the operation
abbrev pub IsAlone : List Op → Op → Type 0
IsAlone T op = (other : Op) → Contains T other → HaveName other op → other ≡ op

change-is : (c : List ℕ) (s : Stamp) (k : ℕ) (x y : SessionOp) → OfSession c s k x ≡ OfSession c s k y → x ≡ y
change-is c s k x y e = cc

put-is : (c : List ℕ) (x y : Put) → OfPut c x ≡ OfPut c y → x ≡ y
put-is c x y e = cc

-- what the list has under the operation's name is the operation
change-alone : (T : List Op) (c : List ℕ) (s : Stamp) (k : ℕ) (o x : SessionOp) → IsAlone T (OfSession c s k o) → operation_at c T (s, k) ≡ Some x → x ≡ o
change-alone T c s k o x alone e = change-is c s k x o (alone (OfSession c s k x) (operation_occurs c T (s, k) x e) (refl, refl, refl))

put-alone : (T : List Op) (c : List ℕ) (p x : Put) → IsAlone T (OfPut c p) → put_at c T (p.seq, p.origin) ≡ Some x → x ≡ p
put-alone T c p x alone e =
    let there = put_occurs c T (p.seq, p.origin) x e in
    put-is c x p (alone (OfPut c x) there.0 (refl, ap (λ (n : ℕ × ℕ). n.1) there.1, ap (λ (n : ℕ × ℕ). n.0) there.1))

retain-is : (t : List ℕ) (x y : Retained) → OfRetain t x ≡ OfRetain t y → x ≡ y
retain-is t x y e = cc

retain-alone : (T : List Op) (t : List ℕ) (k x : Retained) → IsAlone T (OfRetain t k) → retain_at t T (clock_of k) ≡ Some x → x ≡ k
retain-alone T t k x alone e =
    let there = retain_occurs t T (clock_of k) x e in
    retain-is t x k (alone (OfRetain t x) there.0 (refl, ap (λ (n : ℕ × ℕ). n.0) there.1, ap (λ (n : ℕ × ℕ). n.1) there.1))

is_in : (op : Op) (T : List Op) → Contains T op → IsIn op T
is_in op T h = at_in op T h.0 (slice_get-get_or T h.0 op h.1 ∙ ap Some h.2)

covered : (c : List ℕ) (origin first last seq : ℕ) → first ≤ seq → seq ≤ last → acknowledges c (seq, origin) (Ack c origin first last) ≡ true
covered c origin first last seq lower upper = and_from _ _ (and_from _ _ (and_from _ _ (same_client-itself c) (eq-eqb origin origin refl)) (le-leb first seq lower)) (le-leb seq last upper)

pub stands-alone : (T : List Op) (op : Op) → Contains T op → IsAlone T op → HasOperation T op
stands-alone T (OfSession c s k o) h alone =
    let r = some-is (operation_at c T (s, k)) (is_there T (OfSession c s k o) h) in
    r.1 ∙ ap Some (change-alone T c s k o r.0 alone r.1)
stands-alone T (OfPut c p) h alone =
    let r = some-is (put_at c T (p.seq, p.origin)) (is_there T (OfPut c p) h) in
    r.1 ∙ ap Some (put-alone T c p r.0 alone r.1)
stands-alone T (OfRetain t k) h alone =
    let r = some-is (retain_at t T (clock_of k)) (is_there T (OfRetain t k) h) in
    r.1 ∙ ap Some (retain-alone T t k r.0 alone r.1)
stands-alone T (Ack c origin first last) h alone = λ seq lower upper.
    any_in (acknowledges c (seq, origin)) (Ack c origin first last) T (covered c origin first last seq lower upper) (is_in (Ack c origin first last) T h)

pub agrees-alone : (T : List Op) (op : Op) → IsAlone T op → Agrees T op
agrees-alone T (OfSession c s k o) alone =
    elim (operation_at c T (s, k)) as (λ r. operation_at c T (s, k) ≡ r → IfSome r (λ kept. kept ≡ o)) [
      | None ↦ λ e. tt
      | Some x ↦ λ e. change-alone T c s k o x alone e
    ] refl
agrees-alone T (OfPut c p) alone =
    elim (put_at c T (p.seq, p.origin)) as (λ r. put_at c T (p.seq, p.origin) ≡ r → IfSome r (λ kept. kept ≡ p)) [
      | None ↦ λ e. tt
      | Some x ↦ λ e. put-alone T c p x alone e
    ] refl
agrees-alone T (Ack c origin first last) alone = tt
agrees-alone T (OfRetain t k) alone =
    elim (retain_at t T (clock_of k)) as (λ r. retain_at t T (clock_of k) ≡ r → IfSome r (λ kept. kept ≡ k)) [
      | None ↦ λ e. tt
      | Some x ↦ λ e. retain-alone T t k x alone e
    ] refl

shared : (a b : Op) → HaveName a b → ShareName a b
shared (OfSession c s k o) (OfSession d t j p) h = h
shared (OfPut c p) (OfPut d q) h = h
shared (OfRetain t k) (OfRetain u l) h = h
shared a b h = absurd h

pub turned : (a b : Op) → HaveName a b → HaveName b a
turned (OfSession c s k o) (OfSession d t j p) h = (sym h.0, sym h.1, sym h.2)
turned (OfPut c p) (OfPut d q) h = (sym h.0, sym h.1, sym h.2)
turned (OfRetain t k) (OfRetain u l) h = (sym h.0, sym h.1, sym h.2)
turned a b h = absurd h

delta-once : (D : List Op) → IsDelta D → ¬ (HasTwice D)
delta-once D d = rising_apart 1 D (rising_ascending D d.well_made d.ascending)

-- each operation of a delta stands in it
pub delta-stands : (D : List Op) → IsDelta D → (op : Op) → Contains D op → HasOperation D op
delta-stands D d op h = stands-alone D op h (λ other there named. one_of_name D (delta-once D d) other op (is_in other D there) (is_in op D h) (shared other op named))

-- in one place
pub delta-place : (D : List Op) → IsDelta D → (k l : ℕ) (a b : Op) → slice_get D k ≡ Some a → slice_get D l ≡ Some b → HaveName a b → k ≡ l
delta-place D d k l a b at there named =
    elim (cases_order k l) [
      | inl same ↦ same
      | inr apart ↦ elim apart [
        | inl lt ↦ absurd (delta-once D d (k, l, a, b, lt, at, there, shared a b named))
        | inr gt ↦ absurd (delta-once D d (l, k, b, a, gt, there, at, shared b a (turned a b named)))
      ]
    ]

pub contains_at : (T : List Op) (k : ℕ) (op : Op) → slice_get T k ≡ Some op → Contains T op
contains_at T k op e = (k, slice_get_within T k op e, get_or_from_slice_get T k op op e)

pub stands-left : (A B : List Op) (op : Op) → HasOperation A op → HasOperation (A ++ B) op
stands-left A B (OfSession c s k o) h = (within-left A B).operations_in c (s, k) o h
stands-left A B (OfPut c p) h = (within-left A B).puts_in c (p.seq, p.origin) p h
stands-left A B (OfRetain t k) h = (within-left A B).retains_in t (clock_of k) k h
stands-left A B (Ack c origin first last) h = λ seq lower upper. (within-left A B).acknowledgements_in c (seq, origin) (h seq lower upper)

-- under a name that is fresh before it
pub stands-right : (A B : List Op) (op : Op) → IsFreshName A op → HasOperation B op → HasOperation (A ++ B) op
stands-right A B (OfSession c s k o) fresh h = operation_at_both c A B (s, k) ∙ none_or (operation_at c A (s, k)) (operation_at c B (s, k)) fresh ∙ h
stands-right A B (OfPut c p) fresh h = put_at_both c A B (p.seq, p.origin) ∙ none_or (put_at c A (p.seq, p.origin)) (put_at c B (p.seq, p.origin)) fresh ∙ h
stands-right A B (OfRetain t k) fresh h = retain_at_both t A B (clock_of k) ∙ none_or (retain_at t A (clock_of k)) (retain_at t B (clock_of k)) fresh ∙ h
stands-right A B (Ack c origin first last) fresh h = λ seq lower upper.
    is_acknowledged_both c A B (seq, origin) ∙ or_right (is_acknowledged c A (seq, origin)) (is_acknowledged c B (seq, origin)) (h seq lower upper)

-- what stands under a name is on the list
pub stands-contains : (T : List Op) (a b : Op) → HaveName a b → HasOperation T a → Contains T a
stands-contains T (OfSession c s k o) (OfSession d t j p) named h = operation_occurs c T (s, k) o h
stands-contains T (OfPut c p) (OfPut d q) named h = (put_occurs c T (p.seq, p.origin) p h).0
stands-contains T (OfRetain t k) (OfRetain u l) named h = (retain_occurs t T (clock_of k) k h).0
stands-contains T a b named h = absurd named
