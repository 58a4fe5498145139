-- The names that a plan writes under are the gateway's own.
use Rattle.std.proofs.Common.{◌≡◌, ℕ, List, [], ◌++◌, map, Option, Some, refl, sym, subst, true, false, if◌then◌else◌, None, IfSome}
use Rattle.std.specs.List.{AllByRecursion, filter_map}
use Rattle.sn_session.specs.declared.change.SessionOp.{SessionOp}
use Rattle.rep_op.specs.declared.op.Op.{Op}
use Rattle.rep_op.specs.declared.op.Op.TheVariants.{Session as OfSession, Put as OfPut, Ack, Retain as OfRetain}
use Rattle.rep_op.specs.declared.op.Stamp.{Stamp}
use Rattle.rep_op.specs.Orders.{operation_cmp}
use Rattle.rep_op.specs.Sets.{same_client, operation_of, operation_at}
use Rattle.rep_model.proofs.Lookup.{find-all}
use Rattle.rep_model.proofs.Readers.{operation_exact}
use Rattle.rep_model.specs.declared.view.ClientView.{ClientView}
use Rattle.sn_plan.specs.declared.plan.Plan.{Plan}
use Rattle.sn_plan.specs.Drafts.{Drafted}
use Rattle.sn_plan.specs.Numbering.{Written, changes_written, ack_of, start_of}
use Rattle.sn_local.specs.Seen.{Seen}
use Rattle.sn_plan.specs.Plans.{plan_of}
use Rattle.sn_plan.specs.Own.{IsOwnWrite, HasNoneOf}
use Rattle.sn_plan.specs.Flush.{stamp_of}
use Rattle.sn_plan.proofs.Lists.{all-append, all-weaken, all-map, none_pass}
use Rattle.row_laws.proofs.Planned.{written-keeps, IsNumbered, planned-parts, parts-more}

-- a session operation of the client, under a stamp of the gateway
abbrev pub IsWritten : ℕ → List ℕ → Op → Type 0
IsWritten g c (OfSession d stamp counter change) = (d ≡ c) × (stamp.gateway ≡ g)
IsWritten g c (OfPut d p) = ⊥
IsWritten g c (Ack d origin first last) = ⊥
IsWritten g c (OfRetain topic kept) = ⊥

module _ (g : ℕ) (c : List ℕ) where
  abbrev pub AllOwn : List Op → Type 0
  AllOwn ops = AllByRecursion (IsOwnWrite g c) ops

  written-own : (changes : List SessionOp) (w x : Written) → AllByRecursion (IsWritten g c) w.ops → changes_written c g changes w ≡ Some x → AllByRecursion (IsWritten g c) x.ops
  written-own changes w x h e = written-keeps c g (λ w. AllByRecursion (IsWritten g c) w.ops) (λ w. AllByRecursion (IsWritten g c) w.ops) (λ w p. p)
      (λ change w _ p. all-append (IsWritten g c) w.ops _ p ((refl, refl), tt))
      (λ session w e _ p. all-append (IsWritten g c) w.ops _ p ((refl, refl), tt))
      changes w x h e

  pub start-written : (v : ClientView) (epoch : Option ℕ) (changes : List SessionOp) (w : Written) → changes_written c g changes (start_of g v epoch) ≡ Some w → AllByRecursion (IsWritten g c) w.ops
  start-written v epoch changes w e = written-own changes (start_of g v epoch) w tt e

  -- a reader that reads neither session operations nor acknowledgements finds nothing in both
  pub before-none : {X : Type 0} (f : Op → Option X) → ((op : Op) → IsWritten g c op → f op ≡ None) → ((name : ℕ × ℕ) → f (ack_of c name) ≡ None)
      → (v : ClientView) (epoch : Option ℕ) (changes : List SessionOp) (w : Written) → changes_written c g changes (start_of g v epoch) ≡ Some w → (acks : List (ℕ × ℕ)) → filter_map f (w.ops ++ map (ack_of c) acks) ≡ []
  before-none f none acked v epoch changes w e acks =
      none_pass f (w.ops ++ map (ack_of c) acks)
      (all-append (λ op. f op ≡ None) w.ops (map (ack_of c) acks)
      (all-weaken (IsWritten g c) (λ op. f op ≡ None) none w.ops (start-written v epoch changes w e))
      (all-map (λ op. f op ≡ None) (ack_of c) acked acks))

  is_own : (op : Op) → IsWritten g c op → IsOwnWrite g c op
  is_own (OfSession d stamp counter change) h = h
  is_own (OfPut d p) h = absurd h
  is_own (Ack d origin first last) h = absurd h
  is_own (OfRetain topic kept) h = absurd h

  numbered-own : (seq clock : List ℕ → Option ℕ) (op : Op) → IsNumbered g seq clock op → IsOwnWrite g c op
  numbered-own seq clock (OfSession d stamp counter change) h = absurd h
  numbered-own seq clock (OfPut d p) h = h.0
  numbered-own seq clock (Ack d origin first last) h = absurd h
  numbered-own seq clock (OfRetain topic kept) h = h.0

  pub plan-own : (seen : Seen) (d : Drafted) (plan : Plan) → plan_of g c seen d ≡ Some plan → AllOwn plan.ops
  plan-own seen d plan e =
      let parts = planned-parts g c (seen.of c) (seen.epoch c) (λ e. seen.seq e g) seen.clock d plan e in
      let before : List Op = parts.w.ops ++ map (ack_of c) d.acks in
      let b = parts-more g c (seen.of c) (seen.epoch c) (λ e. seen.seq e g) seen.clock d plan.ops parts in
      let own : AllOwn before = all-append (IsOwnWrite g c) parts.w.ops (map (ack_of c) d.acks) (all-weaken (IsWritten g c) (IsOwnWrite g c) is_own parts.w.ops (start-written (seen.of c) (seen.epoch c) d.changes parts.w parts.is_written)) (all-map (IsOwnWrite g c) (ack_of c) (λ name. refl) d.acks) in
      subst AllOwn (sym b.1) (all-append (IsOwnWrite g c) before b.0 own (all-weaken (IsNumbered g (λ e. seen.seq e g) seen.clock) (IsOwnWrite g c) (numbered-own (λ e. seen.seq e g) seen.clock) b.0 b.2))

own-entry : (g : ℕ) (c e : List ℕ) (op : Op) → IsOwnWrite g c op → IfSome (operation_of e op) (λ x. x.0.0.gateway ≡ g)
own-entry g c e (OfSession d stamp counter change) h =
    elim (same_client e d) as (λ b. IfSome {T = (Stamp × ℕ) × SessionOp} (if b then Some ((stamp, counter), change) else None) (λ x. x.0.0.gateway ≡ g)) [
      | true ↦ h.1
      | false ↦ tt
    ]
own-entry g c e (OfPut d p) h = tt
own-entry g c e (Ack d origin first last) h = tt
own-entry g c e (OfRetain topic kept) h = tt

none_if : {X : Type 0} (P : Type 0) (o : Option X) → IfSome o (λ _. P) → ¬ P → o ≡ None
none_if P None h k = refl
none_if P (Some x) h k = absurd (k h)

pub plan-apart : (g : ℕ) (c : List ℕ) (seen : Seen) (d : Drafted) (plan : Plan) → plan_of g c seen d ≡ Some plan → (other : ℕ) (e : List ℕ) → ¬ (other ≡ g) → HasNoneOf other e plan.ops
plan-apart g c seen d plan planned other e h epoch counter =
    none_if (other ≡ g) (operation_at e plan.ops (stamp_of epoch other, counter))
    (find-all operation_cmp operation_exact (operation_of e) (λ n x. n.0.gateway ≡ g) plan.ops (all-weaken (IsOwnWrite g c) (λ op. IfSome (operation_of e op) (λ x. x.0.0.gateway ≡ g)) (own-entry g c e) plan.ops (plan-own g c seen d plan planned)) (stamp_of epoch other, counter))
    h
