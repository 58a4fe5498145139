-- What stands in a list, and what its readers find.
use Rattle.std.proofs.Common.{◌≡◌, ℕ, zero, suc, ◌<◌, Bool, true, false, cond, List, [], ◌∷◌, length, get_or, Option, Some, None, refl, sym, ap, subst, ◌∙◌, inl, inr, ◌⊎◌, arith}
use Rattle.std.specs.Prelude.{slice_get, ◌==◌}
use Rattle.std.specs.List.{filter_map, cons_option, list_any, Contains, swap}
use Rattle.std.specs.List.Sorted.{IsPermutation}
use Rattle.std.specs.FinMap.{find}
use Rattle.std.specs.Ordering.{is_eq, nat_cmp}
use Rattle.std.specs.declared.cmp.Ordering.{Ordering}
use Rattle.std.specs.declared.cmp.Ordering.TheVariants.{Less, Equal, Greater}
use Rattle.std.proofs.lemmas.Bool.{cases_order, cases_eq, or_cases, or_left, or_right, both_ways, cases_Bool, eq-eqb, ne_eqb}
use Rattle.std.proofs.lemmas.Bool.Decides.{nat_tests}
use Rattle.std.proofs.lemmas.List.Sorted.{Contains-permutation, IsPermutation-sym, IsPermutation-keeps}
use Rattle.std.proofs.lemmas.List.Edits.{swapped_from_swap, length-swap}
use Rattle.std.proofs.lemmas.Option.{slice_get-get_or, get_or_from_slice_get}
use Rattle.std.proofs.lemmas.Slice.Eq.{bytes_eq-Decides}
use Rattle.sn_session.specs.declared.change.SessionOp.{SessionOp}
use Rattle.rep_op.specs.declared.op.Stamp.{Stamp}
use Rattle.rep_op.specs.declared.op.Put.{Put}
use Rattle.rep_op.specs.declared.op.Op.{Op}
use Rattle.rep_op.specs.declared.op.Retained.{Retained}
use Rattle.rep_op.specs.declared.op.Op.TheVariants.{Session as OfSession, Put as OfPut, Ack, Retain as OfRetain}
use Rattle.rep_op.specs.Orders.{ShareName, HasTwice, operation_cmp, put_cmp, stamp_cmp, clock_cmp, clock_of}
use Rattle.rep_op.specs.Sets.{same_client, operation_of, put_of, acknowledges, is_acknowledged, same_topic, retain_of, Same}
use Rattle.rep_op.proofs.Names.{nat_equal, same_nat, then_equal, same_stamp}

-- ---- what stands in a list

abbrev pub IsIn : Op → List Op → Type 0
IsIn x [] = ⊥
IsIn x (y ∷ ys) = (y ≡ x) ⊎ IsIn x ys

pub in_at : (x : Op) (S : List Op) → IsIn x S → (i : ℕ) × (slice_get S i ≡ Some x)
in_at x [] h = absurd h
in_at x (y ∷ ys) h = elim h [ inl e ↦ (zero, ap (λ (z : Op). Some z) e) | inr more ↦ let r = in_at x ys more in (suc r.0, r.1) ]

pub at_in : (x : Op) (S : List Op) (i : ℕ) → slice_get S i ≡ Some x → IsIn x S
at_in x [] i e = absurd cc
at_in x (y ∷ ys) zero e = inl cc
at_in x (y ∷ ys) (suc i) e = inr (at_in x ys i e)

some_below : (x : Op) (S : List Op) (i : ℕ) → slice_get S i ≡ Some x → i < length S
some_below x [] i e = absurd cc
some_below x (y ∷ ys) zero e = omega arith
some_below x (y ∷ ys) (suc i) e = let lt = some_below x ys i e in omega arith

pub in_permutation : (xs ys : List Op) (x : Op) → IsPermutation xs ys → IsIn x xs → IsIn x ys
in_permutation xs ys x p h =
    let place = in_at x xs h in
    let lt = some_below x xs place.0 place.1 in
    let there : Contains xs x = (place.0, lt, get_or_from_slice_get xs place.0 x x place.1) in
    let moved = Contains-permutation xs ys x p there in
    at_in x ys moved.0 (slice_get-get_or ys moved.0 x moved.1 ∙ ap (λ (z : Op). Some z) moved.2)

-- ---- two of one name

share_sym : (a b : Op) → ShareName a b → ShareName b a
share_sym (OfSession c s i o) (OfSession d t j p) h = (sym h.0, sym h.1, sym h.2)
share_sym (OfSession c s i o) (OfPut d q) h = h
share_sym (OfSession c s i o) (Ack d r first last) h = h
share_sym (OfSession c s i o) (OfRetain u l) h = h
share_sym (OfPut c p) (OfSession d t j o) h = h
share_sym (OfPut c p) (OfPut d q) h = (sym h.0, sym h.1, sym h.2)
share_sym (OfPut c p) (Ack d r first last) h = h
share_sym (OfPut c p) (OfRetain u l) h = h
share_sym (Ack c r first last) (OfSession d t j o) h = h
share_sym (Ack c r first last) (OfPut d q) h = h
share_sym (Ack c r first last) (Ack d s start end) h = (sym h.0, sym h.1, h.3, h.2)
share_sym (Ack c r first last) (OfRetain u l) h = h
share_sym (OfRetain t k) (OfSession d i j o) h = h
share_sym (OfRetain t k) (OfPut d q) h = h
share_sym (OfRetain t k) (Ack d r first last) h = h
share_sym (OfRetain t k) (OfRetain u l) h = (sym h.0, sym h.1, sym h.2)

-- two places with one name make a pair of the list, whichever comes first
twice_from : (S : List Op) (i j : ℕ) (a b : Op) → (i ≡ j → ⊥) → slice_get S i ≡ Some a → slice_get S j ≡ Some b → ShareName a b → HasTwice S
twice_from S i j a b ne p q e =
    elim (cases_order i j) [
      | inl same ↦ absurd (ne same)
      | inr apart ↦ elim apart [ inl lt ↦ (i, j, a, b, lt, p, q, e) | inr gt ↦ (j, i, b, a, gt, q, p, share_sym a b e) ]
    ]

-- of two that share a name in a list without such a pair each is the other
pub one_of_name : (S : List Op) → ¬ (HasTwice S) → (a b : Op) → IsIn a S → IsIn b S → ShareName a b → a ≡ b
one_of_name S once a b p q e =
    let i = in_at a S p in
    let j = in_at b S q in
    elim (cases_eq i.0 j.0) [
      | inl same ↦ (let h = subst (λ (k : ℕ). slice_get S k ≡ Some a) same i.1 in let g = j.1 in cc)
      | inr apart ↦ absurd (once (twice_from S i.0 j.0 a b apart i.1 j.1 e))
    ]

-- where an element of the exchanged list stood
abbrev exchanged : ℕ → ℕ → ℕ → ℕ
exchanged a b k = cond (k == a) b (cond (k == b) a k)

exchanged_apart : (a b i j : ℕ) → (i ≡ j → ⊥) → exchanged a b i ≡ exchanged a b j → ⊥
exchanged_apart a b i j ne e = grind (arith, nat_tests)

stood : (l : List Op) (a b : ℕ) → a < length l → b < length l → (k : ℕ) (x : Op) → slice_get (swap l a b) k ≡ Some x → slice_get l (exchanged a b k) ≡ Some x
stood l a b la lb k x e =
    let lt = some_below x (swap l a b) k e in
    let len = length-swap l a b in
    let here : get_or (swap l a b) k x ≡ x = get_or_from_slice_get (swap l a b) k x x e in
    let moved = swapped_from_swap l (swap l a b) a b x la lb refl in
    let read : (m : ℕ) → m < length l → get_or (swap l a b) k x ≡ get_or l m x → slice_get l m ≡ Some x = λ m below same.
    slice_get-get_or l m x below ∙ ap (λ (z : Op). Some z) (sym same ∙ here) in
    elim (cases_eq k a) [
      | inl at_a ↦ rw (eq-eqb k a at_a) (read b lb (ap (λ m. get_or (swap l a b) m x) at_a ∙ moved.0))
      | inr off_a ↦ rw (ne_eqb k a off_a) (elim (cases_eq k b) [
        | inl at_b ↦ rw (eq-eqb k b at_b) (read a la (ap (λ m. get_or (swap l a b) m x) at_b ∙ moved.1))
        | inr off_b ↦ rw (ne_eqb k b off_b) (read k (omega arith) (moved.2 k off_a off_b))
      ])
    ]

twice_swap : (l : List Op) (a b : ℕ) → a < length l → b < length l → HasTwice (swap l a b) → HasTwice l
twice_swap l a b la lb t =
    twice_from l (exchanged a b t.0) (exchanged a b t.1) t.2 t.3 (exchanged_apart a b t.0 t.1 (omega arith)) (stood l a b la lb t.0 t.2 t.5) (stood l a b la lb t.1 t.3 t.6) t.7

pub twice_permutation : (xs ys : List Op) → IsPermutation xs ys → HasTwice ys → HasTwice xs
twice_permutation xs ys p = IsPermutation-keeps xs (λ l. HasTwice l → HasTwice xs) (λ t. t) (λ l i j li lj before t. before (twice_swap l i j li lj t)) ys p

-- ---- what a reader by name finds

equal_from : (o : Ordering) → is_eq o ≡ true → o ≡ Equal
equal_from Less e = absurd cc
equal_from Equal e = refl
equal_from Greater e = absurd cc

some_is : {X : Type 0} (a b : X) → Some a ≡ Some b → a ≡ b
some_is a b e = cc

-- a comparison that ties equal values alone
pub record IsExact {K : Type 0} (R : K → K → Ordering) : Type 0 where
  pub same : (a b : K) → R a b ≡ Equal → a ≡ b
  pub itself : (a : K) → R a a ≡ Equal

-- what stands first, or else what is found after it
found_here : {K V : Type 0} (R : K → K → Ordering) (exact : IsExact R) (of : Op → Option (K × V)) (name : K) (v : V) (y : Op) (ys : List Op) (e : K × V) (rest : Option V) → of y ≡ Some e
    → (o : Ordering) → R name e.0 ≡ o → cond (is_eq o) (Some e.1) rest ≡ Some v
    → (rest ≡ Some v → (x : Op) × IsIn x ys × (of x ≡ Some (name, v))) → (x : Op) × IsIn x (y ∷ ys) × (of x ≡ Some (name, v))
found_here R exact of name v y ys e rest is Less o-is found more = let r = more found in (r.0, inr r.1, r.2)
found_here R exact of name v y ys e rest is Equal o-is found more =
    let same : name ≡ e.0 = exact.same name e.0 o-is in
    let value : e.1 ≡ v = cc in
    (y, inl refl, is ∙ (λ i. Some (sym same i, value i)))
found_here R exact of name v y ys e rest is Greater o-is found more = let r = more found in (r.0, inr r.1, r.2)

found_at : {K V : Type 0} (R : K → K → Ordering) (exact : IsExact R) (of : Op → Option (K × V)) (name : K) (v : V) (y : Op) (ys : List Op) (o : Option (K × V)) → of y ≡ o
    → find R name (cons_option o (filter_map of ys)) ≡ Some v
    → (find R name (filter_map of ys) ≡ Some v → (x : Op) × IsIn x ys × (of x ≡ Some (name, v)))
    → (x : Op) × IsIn x (y ∷ ys) × (of x ≡ Some (name, v))
found_at R exact of name v y ys None is found more = let r = more found in (r.0, inr r.1, r.2)
found_at R exact of name v y ys (Some e) is found more =
    found_here R exact of name v y ys e (find R name (filter_map of ys)) is (R name e.0) refl found more

pub find_in : {K V : Type 0} (R : K → K → Ordering) (exact : IsExact R) (of : Op → Option (K × V)) (name : K) (v : V) (S : List Op)
    → find R name (filter_map of S) ≡ Some v → (x : Op) × IsIn x S × (of x ≡ Some (name, v))
find_in R exact of name v [] e = absurd cc
find_in R exact of name v (y ∷ ys) e = found_at R exact of name v y ys (of y) refl e (find_in R exact of name v ys)

-- entries under one name have one value
abbrev pub IsSingle : {K V : Type 0} → (Op → Option (K × V)) → List Op → Type 0
IsSingle {K} {V} of S = (x y : Op) (name : K) (v w : V) → IsIn x S → IsIn y S → of x ≡ Some (name, v) → of y ≡ Some (name, w) → v ≡ w

of_here : {K V : Type 0} (R : K → K → Ordering) (exact : IsExact R) (of : Op → Option (K × V)) (name : K) (v : V) (y x : Op) (ys : List Op) (e : K × V) (rest : Option V)
    → of y ≡ Some e → (e.0 ≡ name → e.1 ≡ v) → of x ≡ Some (name, v) → (y ≡ x) ⊎ IsIn x ys → (IsIn x ys → rest ≡ Some v)
    → (o : Ordering) → R name e.0 ≡ o → cond (is_eq o) (Some e.1) rest ≡ Some v
of_here {K} {V} R exact of name v y x ys e rest is single here place more o o-is =
    elim (cases_Bool (is_eq o)) [
      | inl tied ↦ rw tied (ap (λ (z : V). Some z) (single (sym (exact.same name e.0 (o-is ∙ equal_from o tied)))))
      | inr not_tied ↦ rw not_tied (elim place [
        | inl same ↦ absurd (
            let both : Some e ≡ Some (name, v) = sym is ∙ ap of same ∙ here in
            let pair : e ≡ (name, v) = some_is e (name, v) both in
            let at : R name e.0 ≡ Equal = ap (λ (p : K × V). R name p.0) pair ∙ exact.itself name in
            let wrong : is_eq o ≡ true = ap is_eq (sym o-is ∙ at) in
            both_ways (is_eq o) not_tied wrong)
        | inr behind ↦ more behind
      ])
    ]

of_at : {K V : Type 0} (R : K → K → Ordering) (exact : IsExact R) (of : Op → Option (K × V)) (name : K) (v : V) (y x : Op) (ys : List Op) (o : Option (K × V)) → of y ≡ o
    → ((w : V) → of y ≡ Some (name, w) → w ≡ v) → of x ≡ Some (name, v) → (y ≡ x) ⊎ IsIn x ys → (IsIn x ys → find R name (filter_map of ys) ≡ Some v)
    → find R name (cons_option o (filter_map of ys)) ≡ Some v
of_at R exact of name v y x ys None is single here place more =
    elim place [
      | inl same ↦ absurd (let both : None ≡ Some (name, v) = sym is ∙ ap of same ∙ here in cc)
      | inr behind ↦ more behind
    ]
of_at {K} {V} R exact of name v y x ys (Some e) is single here place more =
    of_here R exact of name v y x ys e (find R name (filter_map of ys)) is (λ same. single e.1 (is ∙ (λ i. Some (same i, e.1)))) here place more (R name e.0) refl

pub find_of : {K V : Type 0} (R : K → K → Ordering) (exact : IsExact R) (of : Op → Option (K × V)) (name : K) (v : V) (S : List Op)
    → ((y : Op) (w : V) → IsIn y S → of y ≡ Some (name, w) → w ≡ v) → (x : Op) → of x ≡ Some (name, v) → IsIn x S → find R name (filter_map of S) ≡ Some v
find_of R exact of name v [] single x here place = absurd place
find_of R exact of name v (y ∷ ys) single x here place =
    of_at R exact of name v y x ys (of y) refl (λ w is. single y w (inl refl) is) here place (λ behind. find_of R exact of name v ys (λ z w p is. single z w (inr p) is) x here behind)

-- what one finds the other finds
found_both : {K V : Type 0} (R : K → K → Ordering) (exact : IsExact R) (of : Op → Option (K × V)) (name : K) (v : V) (A B : List Op)
    → IsSingle of B → ((x : Op) → IsIn x A → IsIn x B) → find R name (filter_map of A) ≡ Some v → find R name (filter_map of B) ≡ Some v
found_both R exact of name v A B single over found =
    let r = find_in R exact of name v A found in
    let there = over r.0 r.1 in
    find_of R exact of name v B (λ y w place is. single y r.0 name w v place there is r.2) r.0 r.2 there

same_option : {V : Type 0} (a b : Option V) → ((v : V) → a ≡ Some v → b ≡ Some v) → ((v : V) → b ≡ Some v → a ≡ Some v) → a ≡ b
same_option None None over back = refl
same_option None (Some w) over back = back w refl
same_option (Some v) b over back = sym (over v refl)

same_found : {K V : Type 0} (R : K → K → Ordering) (exact : IsExact R) (of : Op → Option (K × V)) (name : K) (A B : List Op)
    → IsSingle of A → IsSingle of B → ((x : Op) → IsIn x A → IsIn x B) → ((x : Op) → IsIn x B → IsIn x A) → find R name (filter_map of A) ≡ find R name (filter_map of B)
same_found R exact of name A B one other over back =
    same_option _ _ (λ v. found_both R exact of name v A B other over) (λ v. found_both R exact of name v B A one back)

-- ---- the four readers

pub operation_exact : IsExact operation_cmp
operation_exact = record {
  same = λ a b e.
      let x = then_equal (stamp_cmp a.0 b.0) (nat_cmp a.1 b.1) e in
      let y = then_equal (nat_cmp a.0.epoch b.0.epoch) (nat_cmp a.0.gateway b.0.gateway) x.0 in
      let stamp : a.0 ≡ b.0 = same_stamp a.0 b.0 (nat_equal _ _ y.0) (nat_equal _ _ y.1) in
      let counter : a.1 ≡ b.1 = nat_equal _ _ x.1 in
      λ i. (stamp i, counter i);
  itself = λ a. rw (same_nat a.0.epoch a.0.epoch refl, same_nat a.0.gateway a.0.gateway refl, same_nat a.1 a.1 refl) refl;
}

pub put_exact : IsExact put_cmp
put_exact = record {
  same = λ a b e.
      let x = then_equal (nat_cmp a.0 b.0) (nat_cmp a.1 b.1) e in
      let seq : a.0 ≡ b.0 = nat_equal _ _ x.0 in
      let origin : a.1 ≡ b.1 = nat_equal _ _ x.1 in
      λ i. (seq i, origin i);
  itself = λ a. rw (same_nat a.0 a.0 refl, same_nat a.1 a.1 refl) refl;
}

pub clock_exact : IsExact clock_cmp
clock_exact = record {
  same = λ a b e.
      let x = then_equal (nat_cmp a.0 b.0) (nat_cmp a.1 b.1) e in
      let clock : a.0 ≡ b.0 = nat_equal _ _ x.0 in
      let gateway : a.1 ≡ b.1 = nat_equal _ _ x.1 in
      λ i. (clock i, gateway i);
  itself = λ a. rw (same_nat a.0 a.0 refl, same_nat a.1 a.1 refl) refl;
}

pub operation_shape : (c : List ℕ) (x : Op) (name : Stamp × ℕ) (change : SessionOp) → operation_of c x ≡ Some (name, change) → x ≡ OfSession c name.0 name.1 change
operation_shape c (OfPut d q) name change e = absurd cc
operation_shape c (Ack d r first last) name change e = absurd cc
operation_shape c (OfRetain u l) name change e = absurd cc
operation_shape c (OfSession d t j o) name change e =
    elim (cases_Bool (same_client c d)) [
      | inl same ↦
          let client : c ≡ d = (bytes_eq-Decides c d).0 same in
          let both : ((t, j), o) ≡ (name, change) = some_is _ _ (rw same at e) in
          (λ i. OfSession (sym client i) (both i).0.0 (both i).0.1 (both i).1)
      | inr other ↦ absurd (let none = rw other at e in cc)
    ]

pub put_shape : (c : List ℕ) (x : Op) (name : ℕ × ℕ) (put : Put) → put_of c x ≡ Some (name, put) → (x ≡ OfPut c put) × (name ≡ (put.seq, put.origin))
put_shape c (OfSession d t j o) name put e = absurd cc
put_shape c (Ack d r first last) name put e = absurd cc
put_shape c (OfRetain u l) name put e = absurd cc
put_shape c (OfPut d q) name put e =
    elim (cases_Bool (same_client c d)) [
      | inl same ↦
          let client : c ≡ d = (bytes_eq-Decides c d).0 same in
          let both : ((q.seq, q.origin), q) ≡ (name, put) = some_is _ _ (rw same at e) in
          ((λ i. OfPut (sym client i) (both i).1), sym (ap (λ (p : (ℕ × ℕ) × Put). p.0) both) ∙ ap (λ (p : (ℕ × ℕ) × Put). (p.1.seq, p.1.origin)) both)
      | inr other ↦ absurd (let none = rw other at e in cc)
    ]

pub retain_shape : (t : List ℕ) (x : Op) (name : ℕ × ℕ) (kept : Retained) → retain_of t x ≡ Some (name, kept) → (x ≡ OfRetain t kept) × (name ≡ clock_of kept)
retain_shape t (OfSession d i j o) name kept e = absurd cc
retain_shape t (OfPut d q) name kept e = absurd cc
retain_shape t (Ack d r first last) name kept e = absurd cc
retain_shape t (OfRetain u l) name kept e =
    elim (cases_Bool (same_topic t u)) [
      | inl same ↦
          let topic : t ≡ u = (bytes_eq-Decides t u).0 same in
          let both : ((l.clock, l.gateway), l) ≡ (name, kept) = some_is _ _ (rw same at e) in
          ((λ i. OfRetain (sym topic i) (both i).1), sym (ap (λ (p : (ℕ × ℕ) × Retained). p.0) both) ∙ ap (λ (p : (ℕ × ℕ) × Retained). (p.1.clock, p.1.gateway)) both)
      | inr other ↦ absurd (let none = rw other at e in cc)
    ]

pub operations_single : (c : List ℕ) (S : List Op) → ¬ (HasTwice S) → IsSingle (operation_of c) S
operations_single c S once x y name v w px py hx hy =
    let sx = operation_shape c x name v hx in
    let sy = operation_shape c y name w hy in
    let share : ShareName x y = subst (λ (z : Op). ShareName z y) (sym sx) (subst (λ (z : Op). ShareName (OfSession c name.0 name.1 v) z) (sym sy) (refl, refl, refl)) in
    let one = one_of_name S once x y px py share in
    let both : OfSession c name.0 name.1 v ≡ OfSession c name.0 name.1 w = sym sx ∙ one ∙ sy in
    cc

pub puts_single : (c : List ℕ) (S : List Op) → ¬ (HasTwice S) → IsSingle (put_of c) S
puts_single c S once x y name v w px py hx hy =
    let sx = put_shape c x name v hx in
    let sy = put_shape c y name w hy in
    let names : (v.seq, v.origin) ≡ (w.seq, w.origin) = sym sx.1 ∙ sy.1 in
    let origin : v.origin ≡ w.origin = ap (λ (p : ℕ × ℕ). p.1) names in
    let seq : v.seq ≡ w.seq = ap (λ (p : ℕ × ℕ). p.0) names in
    let share : ShareName x y = subst (λ (z : Op). ShareName z y) (sym sx.0) (subst (λ (z : Op). ShareName (OfPut c v) z) (sym sy.0) (refl, origin, seq)) in
    let one = one_of_name S once x y px py share in
    let both : OfPut c v ≡ OfPut c w = sym sx.0 ∙ one ∙ sy.0 in
    cc

pub retains_single : (t : List ℕ) (S : List Op) → ¬ (HasTwice S) → IsSingle (retain_of t) S
retains_single t S once x y name v w px py hx hy =
    let sx = retain_shape t x name v hx in
    let sy = retain_shape t y name w hy in
    let names : (v.clock, v.gateway) ≡ (w.clock, w.gateway) = sym sx.1 ∙ sy.1 in
    let clock : v.clock ≡ w.clock = ap (λ (p : ℕ × ℕ). p.0) names in
    let gateway : v.gateway ≡ w.gateway = ap (λ (p : ℕ × ℕ). p.1) names in
    let share : ShareName x y = subst (λ (z : Op). ShareName z y) (sym sx.0) (subst (λ (z : Op). ShareName (OfRetain t v) z) (sym sy.0) (refl, clock, gateway)) in
    let one = one_of_name S once x y px py share in
    let both : OfRetain t v ≡ OfRetain t w = sym sx.0 ∙ one ∙ sy.0 in
    cc

pub any_in : (p : Op → Bool) (x : Op) (S : List Op) → p x ≡ true → IsIn x S → list_any p S ≡ true
any_in p x [] h place = absurd place
any_in p x (y ∷ ys) h place =
    elim place [
      | inl same ↦ or_left (p y) (list_any p ys) (ap p same ∙ h)
      | inr behind ↦ or_right (p y) (list_any p ys) (any_in p x ys h behind)
    ]

pub any_found : (p : Op → Bool) (S : List Op) → list_any p S ≡ true → (x : Op) × IsIn x S × (p x ≡ true)
any_found p [] e = absurd cc
any_found p (y ∷ ys) e =
    elim (or_cases (p y) (list_any p ys) e) [
      | inl here ↦ (y, inl refl, here)
      | inr behind ↦ let r = any_found p ys behind in (r.0, inr r.1, r.2)
    ]

pub same_Bool : (a b : Bool) → (a ≡ true → b ≡ true) → (b ≡ true → a ≡ true) → a ≡ b
same_Bool true b over back = sym (over refl)
same_Bool false true over back = back refl
same_Bool false false over back = refl

pub Same-sym : (A B : List Op) → Same A B → Same B A
Same-sym A B h = record {
  operations_same = λ c name. sym (h.operations_same c name);
  puts_same = λ c name. sym (h.puts_same c name);
  acknowledgements_same = λ c name. sym (h.acknowledgements_same c name);
  retains_same = λ t name. sym (h.retains_same t name);
}

pub Same-trans : (A B C : List Op) → Same A B → Same B C → Same A C
Same-trans A B C h g = record {
  operations_same = λ c name. h.operations_same c name ∙ g.operations_same c name;
  puts_same = λ c name. h.puts_same c name ∙ g.puts_same c name;
  acknowledgements_same = λ c name. h.acknowledgements_same c name ∙ g.acknowledgements_same c name;
  retains_same = λ t name. h.retains_same t name ∙ g.retains_same t name;
}

-- operations of which no two share a name are the same set in any order
pub same_permutation : (xs ys : List Op) → IsPermutation xs ys → ¬ (HasTwice xs) → Same xs ys
same_permutation xs ys p once =
    let back = IsPermutation-sym xs ys p in
    let over = λ (x : Op) (h : IsIn x xs). in_permutation xs ys x p h in
    let under = λ (x : Op) (h : IsIn x ys). in_permutation ys xs x back h in
    let once_too : ¬ (HasTwice ys) = λ t. once (twice_permutation xs ys p t) in
    record {
      operations_same = λ c name. same_found operation_cmp operation_exact (operation_of c) name xs ys (operations_single c xs once) (operations_single c ys once_too) over under;
      puts_same = λ c name. same_found put_cmp put_exact (put_of c) name xs ys (puts_single c xs once) (puts_single c ys once_too) over under;
      acknowledgements_same = λ c name. same_Bool (is_acknowledged c xs name) (is_acknowledged c ys name)
          (λ e. let r = any_found (acknowledges c name) xs e in any_in (acknowledges c name) r.0 ys r.2 (over r.0 r.1))
          (λ e. let r = any_found (acknowledges c name) ys e in any_in (acknowledges c name) r.0 xs r.2 (under r.0 r.1));
      retains_same = λ t name. same_found clock_cmp clock_exact (retain_of t) name xs ys (retains_single t xs once) (retains_single t ys once_too) over under;
    }
