-- What a plan acknowledges is what its draft does, and its frames are those of the draft.
use Rattle.std.proofs.Common.{◌≡◌, ℕ, true, false, List, [], ◌∷◌, ◌++◌, map, Option, Some, Contains, refl, sym, ap, ◌∙◌, subst, true≢false, inl, inr}
use Rattle.std.specs.List.{AllByRecursion}
use Rattle.std.proofs.lemmas.Bool.{or_cases, or_from}
use Rattle.std.proofs.lemmas.List.Elements.{All-contains, All-nil}
use Rattle.rep_op.specs.declared.op.Op.{Op}
use Rattle.rep_op.specs.declared.op.Op.TheVariants.{Session as OfSession, Put as OfPut, Ack, Retain as OfRetain}
use Rattle.rep_op.specs.Sets.{acknowledges, is_acknowledged}
use Rattle.rep_model.proofs.Readers.{is_acknowledged_both}
use Rattle.sn_local.specs.Seen.{Seen}
use Rattle.sn_plan.specs.declared.plan.Plan.{Plan}
use Rattle.sn_plan.specs.Drafts.{Drafted}
use Rattle.sn_plan.specs.Numbering.{numbered, changes_written, start_of, ack_of, plan_with, rest_of, planned}
use Rattle.sn_plan.specs.Plans.{plan_of, plan_of_puts}
use Rattle.sn_plan.proofs.Lists.{and_then-some, map-some, all-weaken}
use Rattle.sn_plan.proofs.Made.{for_nobody}
use Rattle.row_laws.proofs.Planned.{IsNumbered, Parts, planned-parts, parts-more}
use Rattle.row_laws.proofs.Names.{IsWritten, start-written}
use Rattle.row_laws.proofs.Leaving.{names-acked}

-- nothing is in an empty list
pub none-there : {X : Type 0} (x : X) → Contains [] x → ⊥
none-there {X} x there = All-contains (λ (y : X). ⊥) [] x (All-nil (λ (y : X). ⊥)) there

-- operations that acknowledge nothing
none-acked : (e : List ℕ) (name : ℕ × ℕ) (ops : List Op) → AllByRecursion (λ op. acknowledges e name op ≡ false) ops → is_acknowledged e ops name ≡ false
none-acked e name [] h = refl
none-acked e name (op ∷ ops) h = or_from (acknowledges e name op) (is_acknowledged e ops name) h.0 (none-acked e name ops h.1)

written-acks : (g : ℕ) (c e : List ℕ) (name : ℕ × ℕ) (op : Op) → IsWritten g c op → acknowledges e name op ≡ false
written-acks g c e name (OfSession d stamp counter change) h = refl
written-acks g c e name (OfPut d p) h = refl
written-acks g c e name (Ack d origin first last) h = absurd h
written-acks g c e name (OfRetain topic kept) h = absurd h

numbered-acks : (g : ℕ) (seq clock : List ℕ → Option ℕ) (e : List ℕ) (name : ℕ × ℕ) (op : Op) → IsNumbered g seq clock op → acknowledges e name op ≡ false
numbered-acks g seq clock e name (OfSession d stamp counter change) h = refl
numbered-acks g seq clock e name (OfPut d p) h = refl
numbered-acks g seq clock e name (Ack d origin first last) h = absurd h
numbered-acks g seq clock e name (OfRetain topic kept) h = refl

-- of two parts that acknowledge, the one that acknowledges nothing is left out
first-part : (e : List ℕ) (name : ℕ × ℕ) (xs ys : List Op) → is_acknowledged e ys name ≡ false → is_acknowledged e (xs ++ ys) name ≡ true → is_acknowledged e xs name ≡ true
first-part e name xs ys none h =
    elim (or_cases (is_acknowledged e xs name) (is_acknowledged e ys name) (sym (is_acknowledged_both e xs ys name) ∙ h)) [
      | inl there ↦ there
      | inr there ↦ absurd (true≢false (sym there ∙ none))
    ]

last-part : (e : List ℕ) (name : ℕ × ℕ) (xs ys : List Op) → is_acknowledged e xs name ≡ false → is_acknowledged e (xs ++ ys) name ≡ true → is_acknowledged e ys name ≡ true
last-part e name xs ys none h =
    elim (or_cases (is_acknowledged e xs name) (is_acknowledged e ys name) (sym (is_acknowledged_both e xs ys name) ∙ h)) [
      | inl there ↦ absurd (true≢false (sym there ∙ none))
      | inr there ↦ there
    ]

module _ (g : ℕ) (c : List ℕ) (seen : Seen) (d : Drafted) (plan : Plan) (planned : plan_of g c seen d ≡ Some plan) where
  abbrev seq_of_step : List ℕ → Option ℕ
  seq_of_step e = seen.seq e g

  cut : Parts g c (seen.of c) (seen.epoch c) seq_of_step seen.clock d plan.ops
  cut = planned-parts g c (seen.of c) (seen.epoch c) seq_of_step seen.clock d plan planned

  -- a plan acknowledges what its draft does, for the client of the draft
  pub plan-acks : (e : List ℕ) (name : ℕ × ℕ) → is_acknowledged e plan.ops name ≡ true → (e ≡ c) × Contains d.acks name
  plan-acks e name h =
      let acks : List Op = map (ack_of c) d.acks in
      let before : List Op = cut.w.ops ++ acks in
      let b = parts-more g c (seen.of c) (seen.epoch c) seq_of_step seen.clock d plan.ops cut in
      let none : is_acknowledged e cut.w.ops name ≡ false = none-acked e name cut.w.ops (all-weaken (IsWritten g c) (λ op. acknowledges e name op ≡ false) (written-acks g c e name) cut.w.ops (start-written g c (seen.of c) (seen.epoch c) d.changes cut.w cut.is_written)) in
      let more : is_acknowledged e b.0 name ≡ false = none-acked e name b.0 (all-weaken (IsNumbered g seq_of_step seen.clock) (λ op. acknowledges e name op ≡ false) (numbered-acks g seq_of_step seen.clock e name) b.0 b.2) in
      let there : is_acknowledged e (before ++ b.0) name ≡ true = subst (λ (ops : List Op). is_acknowledged e ops name ≡ true) b.1 h in
      names-acked c e name d.acks (last-part e name cut.w.ops acks none (first-part e name before b.0 more there))

pub plan-sends : (g : ℕ) (c : List ℕ) (seen : Seen) (d : Drafted) (plan : Plan) → plan_of g c seen d ≡ Some plan → plan.sends ≡ d.sends
unfolding planned
plan-sends g c seen d plan e =
    let m = and_then-some (rest_of g c (λ e. seen.seq e g) seen.clock d) (changes_written c g d.changes (start_of g (seen.of c) (seen.epoch c))) plan e in
    let n = map-some (plan_with d) (numbered g c (λ e. seen.seq e g) seen.clock d (m.0.ops ++ map (ack_of c) d.acks)) plan m.2 in
    ap (λ (p : Plan). p.sends) (sym n.2)

-- a plan for nobody acknowledges nothing
pub puts-acks : (g : ℕ) (seen : Seen) (d : Drafted) (plan : Plan) → plan_of_puts g seen d ≡ Some plan → (e : List ℕ) (name : ℕ × ℕ) → is_acknowledged e plan.ops name ≡ true → ⊥
unfolding planned
puts-acks g seen d plan is e name h =
    none-there name (plan-acks g [] seen (for_nobody d) plan is e name h).1
