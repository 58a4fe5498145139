-- A message stops waiting only by an acknowledgement of the plan.
use Rattle.std.proofs.Common.{◌≡◌, ℕ, Bool, true, false, cond, not, ◌&&◌, ◌||◌, ◌⊎◌, ◌==◌, nat_le, List, [], ◌∷◌, ◌++◌, map, Option, Some, None, Contains, refl, sym, ap, ◌∙◌, subst, true≢false, inl, inr, le_antisymm, eqb-true, leb-true}
use Rattle.std.specs.List.{AllByRecursion}
use Rattle.std.proofs.lemmas.Option.{none-some}
use Rattle.std.proofs.lemmas.Bool.{or_cases, and_parts, or_from}
use Rattle.std.proofs.lemmas.List.Elements.{Contains-push, Contains-append_left, Contains-append_right}
use Rattle.rep_op.specs.declared.op.Put.{Put}
use Rattle.rep_op.specs.declared.op.Op.{Op}
use Rattle.rep_op.specs.declared.op.Op.TheVariants.{Session as OfSession, Put as OfPut, Ack, Retain as OfRetain}
use Rattle.rep_op.specs.Sets.{same_client, put_at, acknowledges, is_acknowledged}
use Rattle.rep_model.specs.Views.{pending_at, view}
use Rattle.rep_model.specs.Fresh.{next_epoch, next_seq, next_clock}
use Rattle.rep_model.proofs.Readers.{same_client-true, is_acknowledged_both}
use Rattle.rep_model.proofs.Thin.{pending_at-reads}
use Rattle.rep_model.proofs.Joins.{within-left, pending-leaves}
use Rattle.sn_plan.specs.declared.plan.Plan.{Plan}
use Rattle.sn_plan.specs.Drafts.{Drafted}
use Rattle.sn_plan.specs.Numbering.{Written, with_puts, with_handed, with_retain, changes_written, start_of, ack_of}
use Rattle.sn_local.specs.Seen.{seen_of}
use Rattle.sn_plan.specs.Plans.{plan_of}
use Rattle.sn_plan.proofs.Lists.{all-weaken}
use Rattle.row_laws.proofs.Planned.{IsNumbered, Parts, planned-parts, parts-more}
use Rattle.row_laws.proofs.Names.{IsWritten, start-written}
use Rattle.std.proofs.lemmas.Option.{same_Some}

-- operations that acknowledge nothing
none-acked : (e : List ℕ) (name : ℕ × ℕ) (ops : List Op) → AllByRecursion (λ op. acknowledges e name op ≡ false) ops → is_acknowledged e ops name ≡ false
none-acked e name [] h = refl
none-acked e name (op ∷ ops) h = or_from (acknowledges e name op) (is_acknowledged e ops name) h.0 (none-acked e name ops h.1)

written-acks : (g : ℕ) (c e : List ℕ) (name : ℕ × ℕ) (op : Op) → IsWritten g c op → acknowledges e name op ≡ false
written-acks g c e name (OfSession d stamp counter change) h = refl
written-acks g c e name (OfPut d p) h = refl
written-acks g c e name (Ack d origin first last) h = absurd h
written-acks g c e name (OfRetain topic kept) h = absurd h

numbered-acks : (g : ℕ) (seq clock : List ℕ → Option ℕ) (e : List ℕ) (name : ℕ × ℕ) (op : Op) → IsNumbered g seq clock op → acknowledges e name op ≡ false
numbered-acks g seq clock e name (OfSession d stamp counter change) h = refl
numbered-acks g seq clock e name (OfPut d p) h = refl
numbered-acks g seq clock e name (Ack d origin first last) h = absurd h
numbered-acks g seq clock e name (OfRetain topic kept) h = refl

-- the acknowledgement of one put
one-acked : (c e : List ℕ) (name own : ℕ × ℕ) → acknowledges e name (ack_of c own) ≡ true → (e ≡ c) × (own ≡ name)
one-acked c e name own h =
    let a = and_parts (same_client e c && (name.1 == own.1) && nat_le own.0 name.0) (nat_le name.0 own.0) h in
    let b = and_parts (same_client e c && (name.1 == own.1)) (nat_le own.0 name.0) a.0 in
    let d = and_parts (same_client e c) (name.1 == own.1) b.0 in
    let seq : own.0 ≡ name.0 = le_antisymm (leb-true own.0 name.0 b.1) (leb-true name.0 own.0 a.1) in
    let origin : own.1 ≡ name.1 = sym (eqb-true name.1 own.1 d.1) in
    (same_client-true e c d.0, λ i. (seq i, origin i))

contains-first : {X : Type 0} (x : X) (xs : List X) → Contains (x ∷ xs) x
contains-first x xs = Contains-append_left (x ∷ []) xs x (Contains-push [] x)

pub names-acked : (c e : List ℕ) (name : ℕ × ℕ) (names : List (ℕ × ℕ)) → is_acknowledged e (map (ack_of c) names) name ≡ true → (e ≡ c) × Contains names name
names-acked c e name [] h = absurd (true≢false (sym h))
names-acked c e name (own ∷ names) h =
    elim (or_cases (acknowledges e name (ack_of c own)) (is_acknowledged e (map (ack_of c) names) name) h) [
      | inl one ↦ let w = one-acked c e name own one in (w.0, subst (λ x. Contains (x ∷ names) name) (sym w.1) (contains-first name names))
      | inr more ↦ let w = names-acked c e name names more in (w.0, Contains-append_right (own ∷ []) names name w.1)
    ]

-- what waits is not acknowledged
waits-unacked : (e : List ℕ) (S : List Op) (name : ℕ × ℕ) (put : Put) → pending_at e S name ≡ Some put → is_acknowledged e S name ≡ false
waits-unacked e S name put h =
    elim (is_acknowledged e S name) as (λ b. cond (not b) (put_at e S name) None ≡ Some put → b ≡ false) [
      | true ↦ λ w. absurd (none-some put w)
      | false ↦ λ _. refl
    ] (sym (pending_at-reads e S name) ∙ h)

or_false : (b : Bool) → (b || false) ≡ b
or_false true = refl
or_false false = refl

module _ (g : ℕ) (c : List ℕ) (S : List Op) (d : Drafted) (plan : Plan) (planned : plan_of g c (seen_of S) d ≡ Some plan) where
  abbrev seq_of_step : List ℕ → Option ℕ
  seq_of_step e = next_seq e g S

  abbrev clock_of_step : List ℕ → Option ℕ
  clock_of_step t = next_clock t S

  cut : Parts g c (view c S) (next_epoch c S) (λ e. next_seq e g S) (λ t. next_clock t S) d plan.ops
  cut = planned-parts g c (view c S) (next_epoch c S) (λ e. next_seq e g S) (λ t. next_clock t S) d plan planned

  pub acked-plan : (e : List ℕ) (name : ℕ × ℕ) → is_acknowledged e plan.ops name ≡ is_acknowledged e (map (ack_of c) d.acks) name
  acked-plan e name =
      let acks : List Op = map (ack_of c) d.acks in
      let before : List Op = cut.w.ops ++ acks in
      let b = parts-more g c (view c S) (next_epoch c S) seq_of_step clock_of_step d plan.ops cut in
      let none : is_acknowledged e cut.w.ops name ≡ false = none-acked e name cut.w.ops (all-weaken (IsWritten g c) (λ op. acknowledges e name op ≡ false) (written-acks g c e name) cut.w.ops (start-written g c (view c S) (next_epoch c S) d.changes cut.w cut.is_written)) in
      let more : is_acknowledged e b.0 name ≡ false = none-acked e name b.0 (all-weaken (IsNumbered g seq_of_step clock_of_step) (λ op. acknowledges e name op ≡ false) (numbered-acks g seq_of_step clock_of_step e name) b.0 b.2) in
      ap (λ ops. is_acknowledged e ops name) b.1
      ∙ is_acknowledged_both e before b.0 name
      ∙ ap (λ m. is_acknowledged e before name || m) more
      ∙ or_false (is_acknowledged e before name)
      ∙ is_acknowledged_both e cut.w.ops acks name
      ∙ ap (λ m. m || is_acknowledged e acks name) none

  pub plan-leaves : (e : List ℕ) (name : ℕ × ℕ) (put : Put) → pending_at e S name ≡ Some put → (pending_at e (S ++ plan.ops) name ≡ Some put) ⊎ ((e ≡ c) × (is_acknowledged c plan.ops name ≡ true) × Contains d.acks name)
  plan-leaves e name put h =
      elim (pending-leaves S (S ++ plan.ops) (within-left S plan.ops) e name put h) [
        | inl waits ↦ inl waits
        | inr acked ↦
            let new : is_acknowledged e plan.ops name ≡ true = ap (λ b. b || is_acknowledged e plan.ops name) (sym (waits-unacked e S name put h)) ∙ sym (is_acknowledged_both e S plan.ops name) ∙ acked in
            let w = names-acked c e name d.acks (sym (acked-plan e name) ∙ new) in
            inr (w.0, subst (λ x. is_acknowledged x plan.ops name ≡ true) w.0 new, w.1)
      ]

  pub plan-quiet : d.changes ≡ [] → d.acks ≡ [] → d.handed ≡ [] → d.retain ≡ None → d.puts ≡ [] → plan.ops ≡ []
  plan-quiet changes acks handed retain puts =
      let start : Written = start_of g (view c S) (next_epoch c S) in
      let before : List Op = cut.w.ops ++ map (ack_of c) d.acks in
      let first : changes_written c g [] start ≡ Some cut.w = ap (λ xs. changes_written c g xs start) (sym changes) ∙ cut.is_written in
      let ops : cut.w.ops ≡ [] = ap (λ (w : Written). w.ops) (sym (same_Some start cut.w first)) in
      let given : with_handed g d.expires c (seq_of_step c) [] before ≡ Some cut.handed = ap (λ xs. with_handed g d.expires c (seq_of_step c) xs before) (sym handed) ∙ cut.is_handed in
      let kept : with_retain g clock_of_step None cut.handed ≡ Some cut.kept = ap (λ posted. with_retain g clock_of_step posted cut.handed) (sym retain) ∙ cut.is_kept in
      let last : with_puts g d.expires seq_of_step [] cut.kept ≡ Some plan.ops = ap (λ xs. with_puts g d.expires seq_of_step xs cut.kept) (sym puts) ∙ cut.is_numbered in
      sym (same_Some cut.kept plan.ops last) ∙ sym (same_Some cut.handed cut.kept kept) ∙ sym (same_Some before cut.handed given) ∙ (λ i. ops i ++ map (ack_of c) (acks i))
