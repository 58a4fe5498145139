-- What a set has under a name stands on the list.
use Rattle.std.proofs.Common.{◌≡◌, ℕ, true, false, cond, List, [], ◌∷◌, Some, Contains, refl, sym, ap, ◌∙◌, subst, arith}
use Rattle.std.specs.List.{filter_map}
use Rattle.std.specs.FinMap.{find}
use Rattle.std.specs.Ordering.{is_eq}
use Rattle.std.specs.declared.cmp.Ordering.{Ordering}
use Rattle.std.specs.declared.cmp.Ordering.TheVariants.{Less, Equal, Greater}
use Rattle.std.proofs.lemmas.List.Elements.{Contains-append_right}
use Rattle.sn_session.specs.declared.change.SessionOp.{SessionOp}
use Rattle.rep_op.specs.declared.op.Stamp.{Stamp}
use Rattle.rep_op.specs.declared.op.Put.{Put}
use Rattle.rep_op.specs.declared.op.Op.{Op}
use Rattle.rep_op.specs.declared.op.Retained.{Retained}
use Rattle.rep_op.specs.declared.op.Op.TheVariants.{Session as OfSession, Put as OfPut, Ack, Retain as OfRetain}
use Rattle.rep_op.specs.Orders.{operation_cmp, put_cmp, clock_of, clock_cmp}
use Rattle.rep_op.specs.Sets.{same_client, operation_of, operation_at, put_of, put_at, same_topic, retain_of, retain_at}
use Rattle.rep_model.proofs.Readers.{operation_exact, put_exact, clock_exact, same_client-true, same_topic-true}

head_of : {X : Type 0} (x : X) (xs : List X) → Contains (x ∷ xs) x
head_of x xs = (0, omega arith, refl)

behind : {X : Type 0} (x y : X) (xs : List X) → Contains xs x → Contains (y ∷ xs) x
behind x y xs h = Contains-append_right (y ∷ []) xs x h

pub equal_of : (o : Ordering) → is_eq o ≡ true → o ≡ Equal
equal_of Less e = absurd (cc)
equal_of Equal e = refl
equal_of Greater e = absurd (cc)

pub operation_occurs : (c : List ℕ) (S : List Op) (name : Stamp × ℕ) (change : SessionOp) → operation_at c S name ≡ Some change → Contains S (OfSession c name.0 name.1 change)
operation_occurs c [] name change e = absurd (cc)
operation_occurs c (OfPut d put ∷ S) name change e = behind _ _ S (operation_occurs c S name change e)
operation_occurs c (Ack d origin first last ∷ S) name change e = behind _ _ S (operation_occurs c S name change e)
operation_occurs c (OfRetain u kept ∷ S) name change e = behind _ _ S (operation_occurs c S name change e)
operation_occurs c (OfSession d stamp counter o ∷ S) name change e =
    elim (same_client c d) as (λ b. same_client c d ≡ b → find operation_cmp name (filter_map (operation_of c) (OfSession d stamp counter o ∷ S)) ≡ Some change → Contains (OfSession d stamp counter o ∷ S) (OfSession c name.0 name.1 change)) [
      | true ↦ λ same found.
          let there : cond (is_eq (operation_cmp name (stamp, counter))) (Some o) (operation_at c S name) ≡ Some change = rw same at found in
          elim (is_eq (operation_cmp name (stamp, counter))) as (λ b. is_eq (operation_cmp name (stamp, counter)) ≡ b → cond b (Some o) (operation_at c S name) ≡ Some change → Contains (OfSession d stamp counter o ∷ S) (OfSession c name.0 name.1 change)) [
            | true ↦ λ tie is.
                let names : name ≡ (stamp, counter) = operation_exact name (stamp, counter) (equal_of _ tie) in
                let content : o ≡ change = cc in
                let whose : c ≡ d = same_client-true c d same in
                let whole : OfSession d stamp counter o ≡ OfSession c name.0 name.1 change =
                ap (λ x. OfSession x stamp counter o) (sym whose) ∙ (ap (λ x. OfSession c stamp counter x) content ∙ ap (λ (n : Stamp × ℕ). OfSession c n.0 n.1 change) (sym names)) in
                subst (λ op. Contains (OfSession d stamp counter o ∷ S) op) whole (head_of _ S)
            | false ↦ λ tie is. behind _ _ S (operation_occurs c S name change is)
          ] refl there
      | false ↦ λ same found.
          let there : operation_at c S name ≡ Some change = rw same at found in
          behind _ _ S (operation_occurs c S name change there)
    ] refl e

pub put_occurs : (c : List ℕ) (S : List Op) (name : ℕ × ℕ) (put : Put) → put_at c S name ≡ Some put → Contains S (OfPut c put) × ((put.seq, put.origin) ≡ name)
put_occurs c [] name put e = absurd (cc)
put_occurs c (OfSession d stamp counter o ∷ S) name put e = let h = put_occurs c S name put e in (behind _ _ S h.0, h.1)
put_occurs c (Ack d origin first last ∷ S) name put e = let h = put_occurs c S name put e in (behind _ _ S h.0, h.1)
put_occurs c (OfRetain u kept ∷ S) name put e = let h = put_occurs c S name put e in (behind _ _ S h.0, h.1)
put_occurs c (OfPut d p ∷ S) name put e =
    elim (same_client c d) as (λ b. same_client c d ≡ b → find put_cmp name (filter_map (put_of c) (OfPut d p ∷ S)) ≡ Some put → Contains (OfPut d p ∷ S) (OfPut c put) × ((put.seq, put.origin) ≡ name)) [
      | true ↦ λ same found.
          let there : cond (is_eq (put_cmp name (p.seq, p.origin))) (Some p) (put_at c S name) ≡ Some put = rw same at found in
          elim (is_eq (put_cmp name (p.seq, p.origin))) as (λ b. is_eq (put_cmp name (p.seq, p.origin)) ≡ b → cond b (Some p) (put_at c S name) ≡ Some put → Contains (OfPut d p ∷ S) (OfPut c put) × ((put.seq, put.origin) ≡ name)) [
            | true ↦ λ tie is.
                let names : name ≡ (p.seq, p.origin) = put_exact name (p.seq, p.origin) (equal_of _ tie) in
                let content : p ≡ put = cc in
                let whose : c ≡ d = same_client-true c d same in
                let whole : OfPut d p ≡ OfPut c put = cc in
                (subst (λ op. Contains (OfPut d p ∷ S) op) whole (head_of _ S), ◌∙◌ {b = (p.seq, p.origin)} (ap (λ (q : Put). (q.seq, q.origin)) (sym content)) (sym names))
            | false ↦ λ tie is. let h = put_occurs c S name put is in (behind _ _ S h.0, h.1)
          ] refl there
      | false ↦ λ same found.
          let there : put_at c S name ≡ Some put = rw same at found in
          let h = put_occurs c S name put there in (behind _ _ S h.0, h.1)
    ] refl e

pub retain_occurs : (t : List ℕ) (S : List Op) (name : ℕ × ℕ) (kept : Retained) → retain_at t S name ≡ Some kept → Contains S (OfRetain t kept) × (clock_of kept ≡ name)
retain_occurs t [] name kept e = absurd (cc)
retain_occurs t (OfSession d stamp counter o ∷ S) name kept e = let h = retain_occurs t S name kept e in (behind _ _ S h.0, h.1)
retain_occurs t (OfPut d p ∷ S) name kept e = let h = retain_occurs t S name kept e in (behind _ _ S h.0, h.1)
retain_occurs t (Ack d origin first last ∷ S) name kept e = let h = retain_occurs t S name kept e in (behind _ _ S h.0, h.1)
retain_occurs t (OfRetain u k ∷ S) name kept e =
    elim (same_topic t u) as (λ b. same_topic t u ≡ b → find clock_cmp name (filter_map (retain_of t) (OfRetain u k ∷ S)) ≡ Some kept → Contains (OfRetain u k ∷ S) (OfRetain t kept) × (clock_of kept ≡ name)) [
      | true ↦ λ same found.
          let there : cond (is_eq (clock_cmp name (k.clock, k.gateway))) (Some k) (retain_at t S name) ≡ Some kept = rw same at found in
          elim (is_eq (clock_cmp name (k.clock, k.gateway))) as (λ b. is_eq (clock_cmp name (k.clock, k.gateway)) ≡ b → cond b (Some k) (retain_at t S name) ≡ Some kept → Contains (OfRetain u k ∷ S) (OfRetain t kept) × (clock_of kept ≡ name)) [
            | true ↦ λ tie is.
                let names : name ≡ (k.clock, k.gateway) = clock_exact name (k.clock, k.gateway) (equal_of _ tie) in
                let content : k ≡ kept = cc in
                let whose : t ≡ u = same_topic-true t u same in
                let whole : OfRetain u k ≡ OfRetain t kept = cc in
                (subst (λ op. Contains (OfRetain u k ∷ S) op) whole (head_of _ S), ◌∙◌ {b = (k.clock, k.gateway)} (ap (λ (q : Retained). (q.clock, q.gateway)) (sym content)) (sym names))
            | false ↦ λ tie is. let h = retain_occurs t S name kept is in (behind _ _ S h.0, h.1)
          ] refl there
      | false ↦ λ same found.
          let there : retain_at t S name ≡ Some kept = rw same at found in
          let h = retain_occurs t S name kept there in (behind _ _ S h.0, h.1)
    ] refl e
