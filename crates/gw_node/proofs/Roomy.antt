-- What has been taken within the limits can be taken once more, one record after the other.
use Rattle.std.proofs.Common.{◌≡◌, ℕ, zero, suc, List, [], ◌∷◌, ◌++◌, length, take, drop, slice_get, Some, None, IfSome, Contains, refl, sym, ap, subst, ◌∙◌, inl, inr, arith}
use Rattle.std.proofs.lemmas.Bool.{cases_lt}
use Rattle.std.proofs.lemmas.List.{take_all, take-append-le, length-append}
use Rattle.std.proofs.lemmas.Option.{same_Some, none-some}
use Rattle.std.proofs.lemmas.List.Concat.{flat_map-append}
use Rattle.std.proofs.lemmas.List.Elements.{All-from_recursion, All-contains, Contains-append_left, Contains-append_right}
use Rattle.rep_op.specs.declared.op.Op.{Op}
use Rattle.rep_op.specs.declared.op.Op.TheVariants.{Session as OfSession, Put as OfPut, Ack, Retain as OfRetain}
use Rattle.rep_op.specs.declared.op.Subject.{Subject}
use Rattle.rep_op.specs.Orders.{clock_of}
use Rattle.rep_op.specs.Sets.{operation_at, put_at, retain_at, HasOperation, Agrees, IsConsistent}
use Rattle.rep_ops.specs.Splitting.{all_of}
use Rattle.rep_ops.proofs.Splitting.{all_of_more}
use Rattle.rep_model.specs.Keep.{CountsAs}
use Rattle.rep_model.specs.Limits.{first_passed}
use Rattle.rep_model.specs.Roomy.{IsRoomy}
use Rattle.rep_model.proofs.Limits.{first_passed-counts, first_passed-more}
use Rattle.gw_answer.specs.declared.refusal.Refusal.TheVariants as refusals
use Rattle.gw_node.specs.Keeping.{Keeps}
use Rattle.gw_node.specs.Opening.{HasMisfit}

-- ---- all records, and one more

pub all_room : (deltas : List (List Op)) → IsRoomy deltas → first_passed (all_of deltas) ≡ None
all_room deltas roomy = sym (ap (λ ds. first_passed (all_of ds)) (take_all (length deltas) deltas (omega arith))) ∙ roomy (length deltas)

-- what is kept of the records passes no limit
pub kept_room : (S K : List Op) (deltas : List (List Op)) → CountsAs S K → CountsAs S (all_of deltas) → IsRoomy deltas → first_passed K ≡ None
kept_room S K deltas kept counts roomy = first_passed-counts S K kept ∙ (sym (first_passed-counts S (all_of deltas) counts) ∙ all_room deltas roomy)

pub roomy_more : (S K delta : List Op) (deltas : List (List Op)) → CountsAs S K → CountsAs S (all_of deltas) → first_passed (K ++ delta) ≡ None → IsRoomy deltas → IsRoomy (deltas ++ delta ∷ [])
roomy_more S K delta deltas kept counts room roomy k = elim (cases_lt (length deltas) k) [
  | inl lt ↦
      ap (λ ds. first_passed (all_of ds)) (take_all k (deltas ++ delta ∷ []) (omega (arith, length-append deltas (delta ∷ []))))
      ∙ (ap first_passed (all_of_more deltas delta) ∙ (first_passed-more S (all_of deltas) delta counts ∙ (sym (first_passed-more S K delta kept) ∙ room)))
  | inr le ↦ ap (λ ds. first_passed (all_of ds)) (take-append-le k deltas (delta ∷ []) le) ∙ roomy k
]

-- ---- each record fits to those before it

one_more : (ds : List (List Op)) (k : ℕ) (d : List Op) → slice_get ds k ≡ Some d → take (suc k) ds ≡ take k ds ++ d ∷ []
one_more [] k d e = absurd (none-some d e)
one_more (x ∷ ds) zero d e = ap (λ y. y ∷ []) (same_Some x d e)
one_more (x ∷ ds) (suc k) d e = ap (λ ys. x ∷ ys) (one_more ds k d e)

parted : (ds : List (List Op)) (k : ℕ) (d : List Op) → slice_get ds k ≡ Some d → ds ≡ take k ds ++ d ∷ drop (suc k) ds
parted [] k d e = absurd (none-some d e)
parted (x ∷ ds) zero d e = ap (λ y. y ∷ ds) (same_Some x d e)
parted (x ∷ ds) (suc k) d e = ap (λ ys. x ∷ ys) (parted ds k d e)

all_parted : (ds : List (List Op)) (k : ℕ) (d : List Op) → slice_get ds k ≡ Some d → all_of ds ≡ all_of (take k ds) ++ (d ++ all_of (drop (suc k) ds))
all_parted ds k d e = ap all_of (parted ds k d e) ∙ flat_map-append (λ (x : List Op). x) (take k ds) (d ∷ drop (suc k) ds)

pub no_full : (ds : List (List Op)) → IsRoomy ds → HasMisfit ds refusals.Full → ⊥
no_full ds roomy h =
    let before = all_of (take h.before ds) in
    let limit = h.misfit.0 in
    let room : first_passed (before ++ h.delta) ≡ None =
    sym (ap first_passed (ap all_of (one_more ds h.before h.delta h.delta_is) ∙ all_of_more (take h.before ds) h.delta)) ∙ roomy (suc h.before) in
    none-some limit (sym room ∙ (sym (first_passed-more before h.kept h.delta h.keeps.counts) ∙ h.misfit.1.1))

-- ---- and contradicts nothing

module _ (W J K : List Op) (proper : IsConsistent W) (inside : (op : Op) → Contains J op → Contains W op) (keeps : Keeps J K) where
  stands : (op : Op) → Contains W op → HasOperation W op
  stands op place = All-contains (HasOperation W) W op (All-from_recursion (HasOperation W) W proper) place

  agrees_kept : (op : Op) → Contains W op → Agrees K op
  agrees_kept (OfSession c stamp counter change) place =
      elim (operation_at c K (stamp, counter)) as (λ o. operation_at c K (stamp, counter) ≡ o → IfSome o (λ k. k ≡ change)) [
        | None ↦ λ _. tt
        | Some k ↦ λ e. same_Some k change (sym (stands (OfSession c stamp counter k) (inside _ (keeps.operations_taken c (stamp, counter) k e))) ∙ stands (OfSession c stamp counter change) place)
      ] refl
  agrees_kept (OfPut c put) place =
      elim (put_at c K (put.seq, put.origin)) as (λ o. put_at c K (put.seq, put.origin) ≡ o → IfSome o (λ k. k ≡ put)) [
        | None ↦ λ _. tt
        | Some k ↦ λ e.
            let p = keeps.puts_taken c (put.seq, put.origin) k e in
            same_Some k put (sym (sym (ap (λ name. put_at c W name) p.1) ∙ stands (OfPut c k) (inside _ p.0)) ∙ stands (OfPut c put) place)
      ] refl
  agrees_kept (Ack c origin first last) place = tt
  agrees_kept (OfRetain t new) place =
      elim (retain_at t K (clock_of new)) as (λ o. retain_at t K (clock_of new) ≡ o → IfSome o (λ k. k ≡ new)) [
        | None ↦ λ _. tt
        | Some k ↦ λ e.
            let p = keeps.retains_taken t (clock_of new) k e in
            same_Some k new (sym (sym (ap (λ name. retain_at t W name) p.1) ∙ stands (OfRetain t k) (inside _ p.0)) ∙ stands (OfRetain t new) place)
      ] refl

pub no_conflict : (ds : List (List Op)) → IsConsistent (all_of ds) → (of : Subject) → HasMisfit ds (refusals.Conflict of) → ⊥
no_conflict ds proper of h =
    let before = all_of (take h.before ds) in
    let rest = all_of (drop (suc h.before) ds) in
    let op = h.misfit.0 in
    h.misfit.3
    (agrees_kept (before ++ (h.delta ++ rest)) before h.kept (subst IsConsistent (all_parted ds h.before h.delta h.delta_is) proper)
    (λ o place. Contains-append_left before (h.delta ++ rest) o place) h.keeps op
    (Contains-append_right before (h.delta ++ rest) op (Contains-append_left h.delta rest op h.misfit.1)))
