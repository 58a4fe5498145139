-- What waits for clients after a plan that makes no message and hands nothing.
use Rattle.std.proofs.Common.{◌≡◌, ℕ, Bool, true, false, cond, not, ◌&&◌, ◌||◌, ◌==◌, nat_le, List, [], ◌∷◌, ◌++◌, map, Option, Some, None, refl, sym, ap, ◌∙◌, arith}
use Rattle.std.proofs.lemmas.Bool.Decides.{nat_tests}
use Rattle.rep_op.specs.declared.op.Op.{Op}
use Rattle.rep_op.specs.Sets.{puts, put_at, acknowledges, is_acknowledged}
use Rattle.rep_model.specs.Views.{pending_at, pending}
use Rattle.rep_model.proofs.Readers.{is_acknowledged_both}
use Rattle.rep_model.proofs.Thin.{pending_at-reads}
use Rattle.sn_plan.specs.declared.plan.Plan.{Plan}
use Rattle.sn_plan.specs.Drafts.{Drafted}
use Rattle.sn_plan.specs.Numbering.{ack_of}
use Rattle.sn_local.specs.Seen.{seen_of}
use Rattle.sn_plan.specs.Plans.{plan_of}
use Rattle.sn_local.proofs.Entries.{same_client-itself, same_client-apart, puts-other}
use Rattle.row_laws.proofs.Freshness.{bare-puts}
use Rattle.row_laws.proofs.Leaving.{acked-plan}
use Rattle.sn_exchange.specs.Exchanges.{same_name, is_done, left}
use Rattle.step_laws.proofs.Pending.{pending-by, pending-left}

-- ---- acknowledgements

same_numbers : (a b m n : ℕ) → ((b == a) && nat_le m n && nat_le n m) ≡ ((m == n) && (a == b))
same_numbers a b m n = grind (arith, nat_tests)

-- the acknowledgement of one message, among those of its client
one_done : (c : List ℕ) (name own : ℕ × ℕ) → acknowledges c name (ack_of c own) ≡ same_name own name
one_done c name own =
    ap (λ t. t && (name.1 == own.1) && nat_le own.0 name.0 && nat_le name.0 own.0) (same_client-itself c)
    ∙ same_numbers own.1 name.1 own.0 name.0

all_done : (c : List ℕ) (name : ℕ × ℕ) (acks : List (ℕ × ℕ)) → is_acknowledged c (map (ack_of c) acks) name ≡ is_done acks name
all_done c name [] = refl
all_done c name (own ∷ acks) = λ i. one_done c name own i || all_done c name acks i

one_other : (c e : List ℕ) (name own : ℕ × ℕ) → ¬ (e ≡ c) → acknowledges e name (ack_of c own) ≡ false
one_other c e name own h = ap (λ t. t && (name.1 == own.1) && nat_le own.0 name.0 && nat_le name.0 own.0) (same_client-apart e c h)

none_of_others : (c e : List ℕ) (name : ℕ × ℕ) → ¬ (e ≡ c) → (acks : List (ℕ × ℕ)) → is_acknowledged e (map (ack_of c) acks) name ≡ false
none_of_others c e name h [] = refl
none_of_others c e name h (own ∷ acks) = λ i. one_other c e name own h i || none_of_others c e name h acks i

-- ---- what waits

waits_yet : {X : Type 0} (a b : Bool) (o : Option X) → cond (not (a || b)) o None ≡ cond (not b) (cond (not a) o None) None
waits_yet true true o = refl
waits_yet true false o = refl
waits_yet false true o = refl
waits_yet false false o = refl

or_none : (a b : Bool) → b ≡ false → (a || b) ≡ a
or_none true b h = refl
or_none false b h = h

module _ (g : ℕ) (c : List ℕ) (S : List Op) (d : Drafted) (plan : Plan) (planned : plan_of g c (seen_of S) d ≡ Some plan) (bare : d.handed ≡ []) (none : d.puts ≡ []) where
  without_puts : (e : List ℕ) → puts e plan.ops ≡ []
  without_puts e = bare-puts g c S d plan planned bare none e

  after_reads : (e : List ℕ) (name : ℕ × ℕ)
      → pending_at e (S ++ plan.ops) name ≡ cond (not (is_acknowledged e S name || is_acknowledged e (map (ack_of c) d.acks) name)) (put_at e S name) None
  after_reads e name =
      pending_at-reads e (S ++ plan.ops) name
      ∙ ap (λ b. cond (not b) (put_at e (S ++ plan.ops) name) None) (is_acknowledged_both e S plan.ops name ∙ ap (λ b. is_acknowledged e S name || b) (acked-plan g c S d plan planned e name))
      ∙ ap (λ o. cond (not (is_acknowledged e S name || is_acknowledged e (map (ack_of c) d.acks) name)) o None) (puts-other e S plan.ops name (without_puts e))

  -- for the client of the plan: what is not acknowledged
  pub plan-left : pending c (S ++ plan.ops) ≡ left d.acks (pending c S)
  plan-left =
      pending-left d.acks c S (S ++ plan.ops)
      (λ name. after_reads c name
      ∙ ap (λ b. cond (not (is_acknowledged c S name || b)) (put_at c S name) None) (all_done c name d.acks)
      ∙ waits_yet (is_acknowledged c S name) (is_done d.acks name) (put_at c S name)
      ∙ ap (λ o. cond (not (is_done d.acks name)) o None) (sym (pending_at-reads c S name)))

  -- for other clients: what waited
  pub plan-others : (e : List ℕ) → ¬ (e ≡ c) → pending e (S ++ plan.ops) ≡ pending e S
  plan-others e h =
      pending-by e (S ++ plan.ops) S
      (λ name. after_reads e name
      ∙ ap (λ b. cond (not b) (put_at e S name) None) (or_none (is_acknowledged e S name) (is_acknowledged e (map (ack_of c) d.acks) name) (none_of_others c e name h d.acks))
      ∙ sym (pending_at-reads e S name))
