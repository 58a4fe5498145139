-- A delta contradicts nothing, and neither do records with one more that agrees with them.
use Rattle.std.proofs.Common.{◌≡◌, ℕ, ◌≤◌, true, List, [], ◌∷◌, ◌++◌, Option, Some, None, IfSome, refl, sym, subst, inl, inr}
use Rattle.std.specs.List.{AllByRecursion}
use Rattle.std.proofs.lemmas.Bool.{and_from, le-leb, eq-eqb}
use Rattle.rep_op.specs.declared.op.Op.{Op}
use Rattle.rep_op.specs.declared.op.Op.TheVariants.{Session as OfSession, Put as OfPut, Ack, Retain as OfRetain}
use Rattle.rep_ops.specs.Deltas.{IsDelta}
use Rattle.rep_op.specs.Orders.{HasTwice, operation_cmp, put_cmp, clock_of, clock_cmp}
use Rattle.rep_op.specs.Sets.{operation_of, operation_at, put_of, put_at, retain_of, retain_at, acknowledges, HasOperation, IsConsistent, Agrees, Within}
use Rattle.rep_ops.specs.Splitting.{all_of}
use Rattle.rep_ops.proofs.Joined.{rising_ascending}
use Rattle.rep_ops.proofs.Rising.{rising_apart}
use Rattle.rep_op.proofs.Sets.{IsIn, find_of, operation_exact, put_exact, clock_exact, operations_single, puts_single, retains_single, any_in}
use Rattle.rep_ops.proofs.Splitting.{all_of_more}
use Rattle.sn_local.proofs.Entries.{same_client-itself}
use Rattle.rep_model.specs.Taking.{AllAgree}
use Rattle.rep_model.proofs.Joins.{all-weaker}
use Rattle.rep_model.proofs.Agreeing.{consistent-together}

-- ---- a delta

covered : (c : List ℕ) (r f l seq : ℕ) → f ≤ seq → seq ≤ l → acknowledges c (seq, r) (Ack c r f l) ≡ true
covered c r f l seq from upto = and_from _ _ (and_from _ _ (and_from _ _ (same_client-itself c) (eq-eqb r r refl)) (le-leb f seq from)) (le-leb seq l upto)

module _ (d : List Op) (once : ¬ (HasTwice d)) where
  stands_in : (op : Op) → IsIn op d → HasOperation d op
  stands_in (OfSession c s i o) place =
      let here : operation_of c (OfSession c s i o) ≡ Some ((s, i), o) = rw (same_client-itself c) refl in
      find_of operation_cmp operation_exact (operation_of c) (s, i) o d (λ y w p is. operations_single c d once y (OfSession c s i o) (s, i) w o p place is here) (OfSession c s i o) here place
  stands_in (OfPut c p) place =
      let here : put_of c (OfPut c p) ≡ Some ((p.seq, p.origin), p) = rw (same_client-itself c) refl in
      find_of put_cmp put_exact (put_of c) (p.seq, p.origin) p d (λ y w q is. puts_single c d once y (OfPut c p) (p.seq, p.origin) w p q place is here) (OfPut c p) here place
  stands_in (OfRetain t k) place =
      let here : retain_of t (OfRetain t k) ≡ Some (clock_of k, k) = rw (same_client-itself t) refl in
      find_of clock_cmp clock_exact (retain_of t) (clock_of k) k d (λ y w q is. retains_single t d once y (OfRetain t k) (clock_of k) w k q place is here) (OfRetain t k) here place
  stands_in (Ack c origin first last) place = λ seq from upto. any_in (acknowledges c (seq, origin)) (Ack c origin first last) d (covered c origin first last seq from upto) place

  stand_all : (ops : List Op) → ((op : Op) → IsIn op ops → IsIn op d) → AllByRecursion (HasOperation d) ops
  stand_all [] f = tt
  stand_all (op ∷ ops) f = (stands_in op (f op (inl refl)), stand_all ops (λ x h. f x (inr h)))

pub delta_consistent : (d : List Op) → IsDelta d → IsConsistent d
delta_consistent d h = stand_all d (rising_apart 1 d (rising_ascending d h.well_made h.ascending)) d (λ op place. place)

-- ---- a part of a set

part_some : {X : Type 0} (j s : Option X) (x : X) → ((y : X) → j ≡ Some y → s ≡ Some y) → IfSome s (λ z. z ≡ x) → IfSome j (λ z. z ≡ x)
part_some None s x f h = tt
part_some (Some y) s x f h = subst (λ o. IfSome o (λ z. z ≡ x)) (f y refl) h

pub agrees_part : (J S : List Op) → Within J S → (op : Op) → Agrees S op → Agrees J op
agrees_part J S w (OfSession c stamp counter change) h = part_some (operation_at c J (stamp, counter)) (operation_at c S (stamp, counter)) change (w.operations_in c (stamp, counter)) h
agrees_part J S w (OfPut c put) h = part_some (put_at c J (put.seq, put.origin)) (put_at c S (put.seq, put.origin)) put (w.puts_in c (put.seq, put.origin)) h
agrees_part J S w (Ack c origin first last) h = tt
agrees_part J S w (OfRetain t k) h = part_some (retain_at t J (clock_of k)) (retain_at t S (clock_of k)) k (w.retains_in t (clock_of k)) h

-- ---- one more record

pub proper_more : (S delta : List Op) (deltas : List (List Op)) → AllAgree S delta → IsConsistent delta → Within (all_of deltas) S → IsConsistent (all_of deltas) → IsConsistent (all_of (deltas ++ delta ∷ []))
proper_more S delta deltas all proper within h =
    subst IsConsistent (sym (all_of_more deltas delta))
    (consistent-together (all_of deltas) delta h proper (all-weaker (Agrees S) (Agrees (all_of deltas)) (agrees_part (all_of deltas) S within) delta all))
