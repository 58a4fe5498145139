-- A message that a step makes waits after it: nothing acknowledges it, for what a step acknowledges waited before.
use Rattle.std.proofs.Common.{◌≡◌, ℕ, Bool, true, false, cond, not, ◌||◌, List, [], ◌∷◌, ◌++◌, Option, Some, None, is_some, Contains, refl, sym, ap, ◌∙◌, subst, true≢false, inl, inr, append_assoc, append-nil}
use Rattle.std.specs.List.{AllByRecursion}
use Rattle.rep_op.specs.declared.op.Op.{Op}
use Rattle.rep_op.specs.declared.op.Op.TheVariants.{Session as OfSession, Put as OfPut, Ack, Retain as OfRetain}
use Rattle.rep_op.specs.declared.op.Put.{Put}
use Rattle.rep_op.specs.Orders.{name_of}
use Rattle.rep_op.specs.Sets.{put_at, is_acknowledged, HasOperation}
use Rattle.rep_model.specs.Views.{pending}
use Rattle.rep_model.proofs.Lookup.{or_else}
use Rattle.rep_model.proofs.Pending.{pending-listed}
use Rattle.rep_model.proofs.Readers.{put_at_both, is_acknowledged_both}
use Rattle.rep_model.proofs.Thin.{pending_at-reads}
use Rattle.sn_local.specs.Seen.{seen_of}
use Rattle.sn_plan.specs.declared.plan.Plan.{Plan}
use Rattle.sn_plan.specs.Flush.{HaveNoGap}
use Rattle.sn_plan.specs.Own.{IsFreshName, AreFresh}
use Rattle.sn_plan.proofs.Lists.{all-both}
use Rattle.sn_plan.proofs.Standing.{fresh-stand}
use Rattle.row_laws.proofs.Freshness.{IsUnacknowledged, plan-fresh, plan-unacked}
use Rattle.put_laws.proofs.Stepping.{step-cause}
use Rattle.put_laws.proofs.Timely.{tick-timely}
use Rattle.put_laws.specs.Puts.{IsOfGateway, IsWaiting}
use Rattle.put_laws.proofs.Putting.{of-draft}

-- ---- the set has no message under the name of a new one

abbrev IsUnput : List Op → Op → Type 0
IsUnput S (OfSession c stamp counter change) = Unit {0}
IsUnput S (OfPut c put) = put_at c S (put.seq, put.origin) ≡ None
IsUnput S (Ack c origin first last) = Unit {0}
IsUnput S (OfRetain topic kept) = Unit {0}

first_none : (a b : Option Put) → or_else a b ≡ None → a ≡ None
first_none None b e = refl
first_none (Some x) b e = absurd (true≢false (ap is_some e))

unput-one : (S A : List Op) (op : Op) → IsFreshName (S ++ A) op → IsUnput S op
unput-one S A (OfSession c stamp counter change) h = tt
unput-one S A (OfPut c put) h = first_none (put_at c S (put.seq, put.origin)) (put_at c A (put.seq, put.origin)) (sym (put_at_both c S A (put.seq, put.origin)) ∙ h)
unput-one S A (Ack c origin first last) h = tt
unput-one S A (OfRetain topic kept) h = tt

unput-all : (S A ops : List Op) → AreFresh (S ++ A) ops → AllByRecursion (IsUnput S) ops
unput-all S A [] f = tt
unput-all S A (op ∷ ops) f = (unput-one S A op f.0, unput-all S (A ++ op ∷ []) ops (subst (λ (X : List Op). AreFresh X ops) (append_assoc S A (op ∷ [])) f.1))

-- ---- what a plan acknowledges waited before

abbrev Waited : List Op → List ℕ → ℕ × ℕ → Type 0
Waited S e name = (put : Put) × Contains (pending e S) put × (name ≡ name_of put)

acked-waited : (g : ℕ) (S : List Op) (plan : Plan) → IsOfGateway g S plan → (e : List ℕ) (name : ℕ × ℕ) → is_acknowledged e plan.ops name ≡ true → Waited S e name
acked-waited g S plan (inl (lifetime, predefined, local, a, frame, now, is)) e name acked =
    let w = step-cause g lifetime predefined (seen_of S) local a frame now plan e name is acked in
    (w.1.0, w.1.1, w.1.2)
acked-waited g S plan (inr (lifetime, advertise, field, predefined, local, now, is)) e name acked =
    let w = tick-timely g lifetime advertise field predefined (seen_of S) local now plan e name is acked in
    (w.1.0, w.1.1, w.1.2)

read_some : (b : Bool) (x : Option Put) (put : Put) → cond (not b) x None ≡ Some put → x ≡ Some put
read_some true x put e = absurd (true≢false (sym (ap is_some e)))
read_some false x put e = e

waited-put : (S : List Op) (e : List ℕ) (name : ℕ × ℕ) (w : Waited S e name) → put_at e S name ≡ Some w.0
waited-put S e name (put, among, named) =
    ap (put_at e S) named
    ∙ read_some (is_acknowledged e S (name_of put)) (put_at e S (name_of put)) put
    (sym (pending_at-reads e S (name_of put)) ∙ (pending-listed e S put).0 among)

by_false : (b : Bool) → (b ≡ true → ⊥) → b ≡ false
by_false true f = absurd (f refl)
by_false false f = refl

-- ---- so it waits

module _ (g : ℕ) (S : List Op) (plan : Plan) (is : IsOfGateway g S plan) where
  abbrev IsNew : Op → Type 0
  IsNew op = IsUnacknowledged S op × IsUnput S op

  waits : (op : Op) → HasOperation (S ++ plan.ops) op → IsNew op → IsWaiting (S ++ plan.ops) op
  waits (OfSession c stamp counter change) stands new = tt
  waits (OfPut c put) stands new =
      let name : ℕ × ℕ = (put.seq, put.origin) in
      let none : is_acknowledged c plan.ops name ≡ false =
      by_false (is_acknowledged c plan.ops name) (λ acked.
      let w = acked-waited g S plan is c name acked in
      true≢false (sym (ap is_some (waited-put S c name w)) ∙ ap is_some new.1)) in
      let open_yet : is_acknowledged c (S ++ plan.ops) name ≡ false =
      is_acknowledged_both c S plan.ops name ∙ (ap (λ b. b || is_acknowledged c plan.ops name) new.0 ∙ none) in
      pending_at-reads c (S ++ plan.ops) name ∙ (ap (λ b. cond (not b) (put_at c (S ++ plan.ops) name) None) open_yet ∙ stands)
  waits (Ack c origin first last) stands new = tt
  waits (OfRetain topic kept) stands new = tt

  pub gateway-kept : HaveNoGap g S → AllByRecursion (IsWaiting (S ++ plan.ops)) plan.ops
  gateway-kept flush =
      let h = of-draft g S plan is in
      let fresh : AreFresh S plan.ops = plan-fresh g h.client S h.draft plan h.is (flush h.client) h.apart in
      all-both (HasOperation (S ++ plan.ops)) IsNew (IsWaiting (S ++ plan.ops)) waits plan.ops
      (fresh-stand S plan.ops fresh)
      (all-both (IsUnacknowledged S) (IsUnput S) IsNew (λ op a b. (a, b)) plan.ops
      (plan-unacked g h.client S h.draft plan h.is)
      (unput-all S [] plan.ops (subst (λ (X : List Op). AreFresh X plan.ops) (sym (append-nil S)) fresh)))
