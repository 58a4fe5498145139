-- How what is kept follows what was taken.
use Rattle.std.proofs.Common.{◌≡◌, ◌≢◌, ℕ, Bool, true, false, not, List, ◌++◌, if◌then◌else◌, Option, Some, None, IfSome, Contains, refl, sym, ap, ◌∙◌, subst}
use Rattle.sn_session.specs.declared.change.SessionOp.{SessionOp}
use Rattle.rep_op.specs.declared.op.Put.{Put}
use Rattle.rep_op.specs.declared.op.Retained.{Retained}
use Rattle.rep_op.specs.declared.op.Subject.{Subject}
use Rattle.rep_op.specs.declared.op.Op.{Op}
use Rattle.rep_op.specs.declared.op.Op.TheVariants.{Session as OfSession, Put as OfPut, Ack, Retain as OfRetain}
use Rattle.rep_op.specs.Orders.{clock_of}
use Rattle.rep_op.specs.Sets.{operation_at, put_at, is_acknowledged, retain_at, Agrees, Same}
use Rattle.rep_model.specs.declared.fault.Limit.{Limit}
use Rattle.rep_model.specs.declared.fault.TakeFault.TheVariants as take_faults
use Rattle.rep_model.specs.Views.{visible}
use Rattle.rep_model.specs.Topics.{latest}
use Rattle.rep_model.specs.Keep.{keep, is_below, is_outdone, CountsAs}
use Rattle.rep_model.specs.Limits.{first_passed}
use Rattle.rep_model.specs.Taking.{AllAgree, Fits, IsFaultOf}
use Rattle.rep_model.proofs.Joins.{view-counts, all-weaker}
use Rattle.rep_model.proofs.Named.{is_named-counts, clients-counts}
use Rattle.rep_model.proofs.Fresh.{next_epoch-counts, next_seq-counts}
use Rattle.rep_model.proofs.Topics.{all_retained-counts, retained-counts, next_clock-counts}
use Rattle.rep_model.proofs.Limits.{first_passed-more}
use Rattle.rep_model.proofs.Readers.{operation_at_keep, put_at_keep, retain_at_keep}
use Rattle.sn_local.specs.Seen.{seen_of}
use Rattle.gw_event.specs.Event.{HaveName, IsConflict, IsTakable}
use Rattle.gw_node.specs.Keeping.{Keeps}

-- a step reads the same of what is kept as of what was taken
pub seen_same : (S K : List Op) → CountsAs S K → seen_of K ≡ seen_of S
seen_same S K counts = λ i. record {
  all = clients-counts S K counts i;
  is_there = λ c. is_named-counts c S K counts i;
  of = λ c. view-counts c S K counts i;
  epoch = λ c. next_epoch-counts c S K counts i;
  seq = λ c g. next_seq-counts c g S K counts i;
  topics = all_retained-counts S K counts i;
  retained = λ t. retained-counts t S K counts i;
  clock = λ t. next_clock-counts t S K counts i;
}

-- an operation that does not agree with what is kept differs from one that was taken
pub record Differs (S : List Op) (new : Op) : Type 0 where
  pub old : Op
  pub is_old : Contains S old
  pub named : HaveName old new
  pub differs : old ≢ new

pub differs_from_taken : (S K : List Op) → Keeps S K → (new : Op) → ¬ (Agrees K new) → Differs S new
differs_from_taken S K k (OfSession c stamp counter change) h =
    elim (operation_at c K (stamp, counter)) as (λ r. operation_at c K (stamp, counter) ≡ r → ¬ (IfSome r (λ kept. kept ≡ change)) → Differs S (OfSession c stamp counter change)) [
      | None ↦ λ e n. absurd (n tt)
      | Some x ↦ λ e n. record {
        old = OfSession c stamp counter x;
        is_old = k.operations_taken c (stamp, counter) x e;
        named = (refl, refl, refl);
        differs = λ same. n (cc);
      }
    ] refl h
differs_from_taken S K k (OfPut c put) h =
    elim (put_at c K (put.seq, put.origin)) as (λ r. put_at c K (put.seq, put.origin) ≡ r → ¬ (IfSome r (λ kept. kept ≡ put)) → Differs S (OfPut c put)) [
      | None ↦ λ e n. absurd (n tt)
      | Some x ↦ λ e n. record {
        old = OfPut c x;
        is_old = (k.puts_taken c (put.seq, put.origin) x e).0;
        named = let same = (k.puts_taken c (put.seq, put.origin) x e).1 in (refl, ap (λ n. n.1) same, ap (λ n. n.0) same);
        differs = λ same. n (cc);
      }
    ] refl h
differs_from_taken S K k (Ack c origin first last) h = absurd (h tt)
differs_from_taken S K k (OfRetain t new) h =
    elim (retain_at t K (clock_of new)) as (λ r. retain_at t K (clock_of new) ≡ r → ¬ (IfSome r (λ kept. kept ≡ new)) → Differs S (OfRetain t new)) [
      | None ↦ λ e n. absurd (n tt)
      | Some x ↦ λ e n. record {
        old = OfRetain t x;
        is_old = (k.retains_taken t (clock_of new) x e).0;
        named = let same = (k.retains_taken t (clock_of new) x e).1 in (refl, ap (λ n. n.0) same, ap (λ n. n.1) same);
        differs = λ same. n (cc);
      }
    ] refl h

-- a conflict with what is kept is one with what was taken
pub conflict_with_taken : (S K D : List Op) (c : Subject) → Keeps S K → IsFaultOf K D (take_faults.Conflict c) → IsConflict S D c
conflict_with_taken S K D c k (new, is_new, is_of, apart) =
    let d = differs_from_taken S K k new apart in
    record { new = new; is_new = is_new; is_of = is_of; old = d.old; is_old = d.is_old; named = d.named; differs = d.differs }

only_kept : {X : Type 0} (b : Bool) (r : Option X) (P : X → Type 0) → IfSome r P → IfSome (if b then r else None) P
only_kept true r P h = h
only_kept false r P h = tt

-- what agrees with a set agrees with what is kept of it
pub agrees_with_kept : (K : List Op) (op : Op) → Agrees K op → Agrees (keep K) op
agrees_with_kept K (OfSession c stamp counter change) h =
    rw operation_at_keep (only_kept {X = SessionOp} (not (is_below stamp (visible c K))) (operation_at c K (stamp, counter)) (λ kept. kept ≡ change) h)
agrees_with_kept K (OfPut c put) h =
    rw put_at_keep (only_kept {X = Put} (not (is_acknowledged c K (put.seq, put.origin))) (put_at c K (put.seq, put.origin)) (λ kept. kept ≡ put) h)
agrees_with_kept K (Ack c origin first last) h = tt
agrees_with_kept K (OfRetain t k) h =
    rw retain_at_keep (only_kept {X = Retained} (not (is_outdone (clock_of k) (latest t K))) (retain_at t K (clock_of k)) (λ kept. kept ≡ k) h)

agrees_alike : (A B : List Op) → Same A B → (op : Op) → Agrees A op → Agrees B op
agrees_alike A B same (OfSession c stamp counter change) h = subst (λ r. IfSome r (λ kept. kept ≡ change)) (same.operations_same c (stamp, counter)) h
agrees_alike A B same (OfPut c put) h = subst (λ r. IfSome r (λ kept. kept ≡ put)) (same.puts_same c (put.seq, put.origin)) h
agrees_alike A B same (Ack c origin first last) h = tt
agrees_alike A B same (OfRetain t k) h = subst (λ r. IfSome r (λ kept. kept ≡ k)) (same.retains_same t (clock_of k)) h

pub agrees_with_taken : (S K D : List Op) → CountsAs S K → AllAgree K D → AllAgree (keep S) D
agrees_with_taken S K D counts all =
    all-weaker (Agrees K) (Agrees (keep S)) (λ op h. agrees_alike (keep K) (keep S) counts op (agrees_with_kept K op h)) D all

pub takable : (S K D : List Op) → Keeps S K → Fits K D → IsTakable S D
takable S K D k fits = record {
  agrees = agrees_with_taken S K D k.counts fits.agrees;
  room = sym (first_passed-more S K D k.counts) ∙ fits.within;
}

pub full_for_taken : (S K D : List Op) (limit : Limit) → Keeps S K → IsFaultOf K D (take_faults.Full limit)
    → AllAgree (keep S) D × ((l : Limit) × (first_passed (S ++ D) ≡ Some l))
full_for_taken S K D limit k (agrees, passed) =
    (agrees_with_taken S K D k.counts agrees, (limit, sym (first_passed-more S K D k.counts) ∙ passed))
