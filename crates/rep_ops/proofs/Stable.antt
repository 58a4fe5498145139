-- Operations that are sorted so that those of one name stay in their order are the same set.
use Rattle.std.proofs.Common.{◌≡◌, ℕ, Bool, true, false, List, [], ◌∷◌, filter, Result, Ok, Err, refl, sym, ap, subst, ◌∙◌, inl, inr}
use Rattle.std.specs.Prelude.{IfOk}
use Rattle.std.specs.Global.{Vec}
use Rattle.std.specs.List.Sorted.{IsPermutation, IsStableBy, ties}
use Rattle.std.specs.Ordering.{is_lt, is_eq, ordering_reverse, nat_cmp}
use Rattle.std.specs.declared.cmp.Ordering.TheVariants.{Equal}
use Rattle.std.proofs.lemmas.Bool.{cases_Bool, both_ways}
use Rattle.std.proofs.lemmas.List.Sorted.{IsPermutation-sym}
use Rattle.std.proofs.lemmas.Slice.Eq.{bytes_eq-Decides}
use Rattle.sn_session.specs.declared.presence.Presence.TheVariants as presences
use Rattle.sn_session.specs.declared.change.SessionOp.TheVariants.{Presence as SetPresence}
use Rattle.rep_op.specs.declared.op.Stamp.{Stamp}
use Rattle.rep_op.specs.declared.op.Op.{Op}
use Rattle.rep_op.specs.declared.op.Op.TheVariants.{Session as OfSession, Put as OfPut, Ack, Retain as OfRetain}
use Rattle.rep_op.specs.declared.fault.OpsFault.{OpsFault}
use Rattle.rep_ops.specs.Making.{IsDeltaOf, AreWellMade}
use Rattle.rep_ops.specs.inner.Joining.{joined_ops}
use Rattle.rep_op.specs.Orders.{name_cmp, operation_cmp, put_cmp, clock_cmp}
use Rattle.rep_op.specs.Sets.{same_client, operation_at, put_at, acknowledges, is_acknowledged, same_topic, retain_at, Same}
use Rattle.rep_op.proofs.Names.{name_total, same_client_cmp, then_equal}
use Rattle.rep_op.proofs.Sets.{in_permutation, any_found, any_in, same_Bool, Same-trans}
use Rattle.rep_ops.proofs.Joined.{IsSortedByName, operation_front, put_front, retain_front, equal_is, delta_joined, same_joined}
use Rattle.rep_ops.proofs.Making.{made_permutation}

abbrev lower : Op → Op → Bool
lower a b = is_lt (name_cmp a b)

module _ {X : Type 0} (read : List Op → X) (p : Op → Bool) (behind : (a : Op) (S T : List Op) → read S ≡ read T → read (a ∷ S) ≡ read (a ∷ T))
    (skip : (a : Op) (S : List Op) → p a ≡ false → read (a ∷ S) ≡ read S) where
  read_filter : (S : List Op) → read (filter p S) ≡ read S
  read_filter [] = refl
  read_filter (a ∷ S) =
      elim (cases_Bool (p a)) [
        | inl passes ↦ rw passes (behind a (filter p S) S (read_filter S))
        | inr fails ↦ rw fails (read_filter S ∙ sym (skip a S fails))
      ]

equal_ties : (a b : Op) → name_cmp a b ≡ Equal → ties lower a b ≡ true
equal_ties a b e =
    let back : name_cmp b a ≡ Equal = name_total.antisymm b a ∙ ap ordering_reverse e in
    rw (e, back) refl

-- an operation of the name, a put, and what is retained
abbrev of_name : List ℕ → Stamp × ℕ → Op
of_name c name = OfSession c name.0 name.1 (SetPresence presences.Active 0)

abbrev put_of_name : List ℕ → ℕ × ℕ → Op
put_of_name c name = OfPut c (record { origin = name.1; seq = name.0; topic = []; qos = 0; retain = false; expires = 0; body = [] })

abbrev retain_of_name : List ℕ → ℕ × ℕ → Op
retain_of_name t name = OfRetain t (record { clock = name.0; gateway = name.1; qos = 0; body = [] })

operation_skip : (c : List ℕ) (name : Stamp × ℕ) (a : Op) (S : List Op) → ties lower (of_name c name) a ≡ false → operation_at c (a ∷ S) name ≡ operation_at c S name
operation_skip c name (OfPut d p) S e = refl
operation_skip c name (Ack d r f l) S e = refl
operation_skip c name (OfRetain u k) S e = refl
operation_skip c name (OfSession d t j o) S e =
    elim (cases_Bool (same_client c d)) [
      | inr other ↦ rw other refl
      | inl same ↦ rw same (elim (cases_Bool (is_eq (operation_cmp name (t, j)))) [
        | inr apart ↦ rw apart refl
        | inl tied ↦ absurd (
            let client = same_client_cmp c d ((bytes_eq-Decides c d).0 same) in
            let equal : name_cmp (of_name c name) (OfSession d t j o) ≡ Equal = rw client (equal_is (operation_cmp name (t, j)) tied) in
            both_ways (ties lower (of_name c name) (OfSession d t j o)) e (equal_ties (of_name c name) (OfSession d t j o) equal))
      ])
    ]

put_skip : (c : List ℕ) (name : ℕ × ℕ) (a : Op) (S : List Op) → ties lower (put_of_name c name) a ≡ false → put_at c (a ∷ S) name ≡ put_at c S name
put_skip c name (OfSession d t j o) S e = refl
put_skip c name (Ack d r f l) S e = refl
put_skip c name (OfRetain u k) S e = refl
put_skip c name (OfPut d p) S e =
    elim (cases_Bool (same_client c d)) [
      | inr other ↦ rw other refl
      | inl same ↦ rw same (elim (cases_Bool (is_eq (put_cmp name (p.seq, p.origin)))) [
        | inr apart ↦ rw apart refl
        | inl tied ↦ absurd (
            let client = same_client_cmp c d ((bytes_eq-Decides c d).0 same) in
            let x = then_equal (nat_cmp name.0 p.seq) (nat_cmp name.1 p.origin) (equal_is (put_cmp name (p.seq, p.origin)) tied) in
            let equal : name_cmp (put_of_name c name) (OfPut d p) ≡ Equal = rw (client, x.1) x.0 in
            both_ways (ties lower (put_of_name c name) (OfPut d p)) e (equal_ties (put_of_name c name) (OfPut d p) equal))
      ])
    ]

retain_skip : (t : List ℕ) (name : ℕ × ℕ) (a : Op) (S : List Op) → ties lower (retain_of_name t name) a ≡ false → retain_at t (a ∷ S) name ≡ retain_at t S name
retain_skip t name (OfSession d s j o) S e = refl
retain_skip t name (OfPut d p) S e = refl
retain_skip t name (Ack d r f l) S e = refl
retain_skip t name (OfRetain u k) S e =
    elim (cases_Bool (same_topic t u)) [
      | inr other ↦ rw other refl
      | inl same ↦ rw same (elim (cases_Bool (is_eq (clock_cmp name (k.clock, k.gateway)))) [
        | inr apart ↦ rw apart refl
        | inl tied ↦ absurd (
            let topic = same_client_cmp t u ((bytes_eq-Decides t u).0 same) in
            let x = then_equal (nat_cmp name.0 k.clock) (nat_cmp name.1 k.gateway) (equal_is (clock_cmp name (k.clock, k.gateway)) tied) in
            let equal : name_cmp (retain_of_name t name) (OfRetain u k) ≡ Equal = rw (topic, x.0) x.1 in
            both_ways (ties lower (retain_of_name t name) (OfRetain u k)) e (equal_ties (retain_of_name t name) (OfRetain u k) equal))
      ])
    ]

same_stable : (xs ys : List Op) → IsPermutation xs ys → IsStableBy lower xs ys → Same ys xs
same_stable xs ys p stable =
    let back = IsPermutation-sym xs ys p in
    record {
      operations_same = λ c name.
          let read = read_filter (λ S. operation_at c S name) (ties lower (of_name c name)) (operation_front c name) (operation_skip c name) in
          sym (read ys) ∙ ap (λ S. operation_at c S name) (stable (of_name c name)) ∙ read xs;
      puts_same = λ c name.
          let read = read_filter (λ S. put_at c S name) (ties lower (put_of_name c name)) (put_front c name) (put_skip c name) in
          sym (read ys) ∙ ap (λ S. put_at c S name) (stable (put_of_name c name)) ∙ read xs;
      acknowledgements_same = λ c name. same_Bool (is_acknowledged c ys name) (is_acknowledged c xs name)
          (λ e. let r = any_found (acknowledges c name) ys e in any_in (acknowledges c name) r.0 xs r.2 (in_permutation ys xs r.0 back r.1))
          (λ e. let r = any_found (acknowledges c name) xs e in any_in (acknowledges c name) r.0 ys r.2 (in_permutation xs ys r.0 p r.1));
      retains_same = λ t name.
          let read = read_filter (λ S. retain_at t S name) (ties lower (retain_of_name t name)) (retain_front t name) (retain_skip t name) in
          sym (read ys) ∙ ap (λ S. retain_at t S name) (stable (retain_of_name t name)) ∙ read xs;
    }

-- sorted and joined, operations are the delta of their set
whole_delta : (xs ys : List Op) → AreWellMade xs → IsPermutation xs ys → IsStableBy lower xs ys → IsSortedByName ys → IsDeltaOf xs (joined_ops ys)
whole_delta xs ys made p stable sorted =
    let there = made_permutation xs ys p made in
    record {
      delta = delta_joined ys there sorted;
      same = Same-trans (joined_ops ys) ys xs (same_joined ys there sorted) (same_stable xs ys p stable);
    }

pub whole_made : (xs ys : List Op) → AreWellMade xs → IsPermutation xs ys → IsStableBy lower xs ys → IsSortedByName ys → {F : Type 0} (r : Result (Vec Op) F)
    → IfOk r (λ out. out.items ≡ joined_ops ys) → IfOk r (λ d. IsDeltaOf xs d.items)
whole_made xs ys made p stable sorted (Ok out) h = subst (λ (d : List Op). IsDeltaOf xs d) (sym h) (whole_delta xs ys made p stable sorted)
whole_made xs ys made p stable sorted (Err e) h = tt
