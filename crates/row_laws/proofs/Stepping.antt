-- What the laws of plans say of a plan that a gateway takes as a delta.
use Rattle.std.proofs.Common.{◌≡◌, ℕ, ◌⊎◌, true, List, ◌++◌, Some, None, is_some, ap, ◌∙◌, inl, inr}
use Rattle.rep_op.specs.declared.op.Stamp.{Stamp}
use Rattle.rep_op.specs.declared.op.Put.{Put}
use Rattle.rep_op.specs.declared.op.Op.{Op}
use Rattle.rep_op.specs.Sets.{operation_at, put_at, is_acknowledged, retain_at, Same}
use Rattle.rep_model.specs.Views.{pending_at}
use Rattle.rep_model.specs.Keep.{keep}
use Rattle.rep_model.specs.Taking.{AllAgree}
use Rattle.rep_model.proofs.Thin.{thin-same, pending_at-thin}
use Rattle.rep_model.proofs.Joins.{same_sym}
use Rattle.sn_plan.specs.declared.plan.Plan.{Plan}
use Rattle.sn_local.specs.Seen.{seen_of}
use Rattle.sn_plan.specs.Own.{AddsNothingOwn, IsOfDraft}
use Rattle.sn_plan.specs.Flush.{IsFlush, HaveNoGap}
use Rattle.row_laws.proofs.Freshness.{plan-fresh}
use Rattle.sn_plan.proofs.Standing.{plan-fits, new-operation, new-put, new-retain}
use Rattle.row_laws.proofs.Leaving.{plan-leaves}
use Rattle.row_laws.proofs.Known.{known-own, known-others, same-behind}
use Rattle.row_laws.proofs.Flushness.{flush-step, flush-same}

module _ (g : ℕ) (S : List Op) (plan : Plan) (p : IsOfDraft g (seen_of S) plan) (delta : List Op) (same : Same delta plan.ops) where
  pub step-fits : HaveNoGap g S → AllAgree S delta × AllAgree (keep S) delta
  step-fits flush = plan-fits S plan.ops (plan-fresh g p.client S p.draft plan p.is (flush p.client) p.apart) delta same

  pub step-flush : HaveNoGap g S → (c : List ℕ) → IsFlush g c (S ++ delta)
  step-flush flush c = flush-same g c (S ++ plan.ops) (S ++ delta) (same_sym (same-behind S plan.ops delta same)) (flush-step g p.client S p.draft plan p.is (flush p.client) c (flush c))

  pub step-leaves : (c : List ℕ) (name : ℕ × ℕ) (put : Put) → pending_at c S name ≡ Some put → (pending_at c (S ++ delta) name ≡ Some put) ⊎ (is_acknowledged c delta name ≡ true)
  step-leaves c name put h =
      elim (plan-leaves g p.client S p.draft plan p.is c name put h) [
        | inl waits ↦ inl (pending_at-thin (S ++ delta) (S ++ plan.ops) (thin-same (S ++ delta) (S ++ plan.ops) (same-behind S plan.ops delta same)) c name ∙ waits)
        | inr acked ↦ inr (same.acknowledgements_same c name ∙ ap (λ x. is_acknowledged x plan.ops name) acked.0 ∙ acked.1)
      ]

  -- no session operation in it is new to the gateway under its own stamps, nor to any other gateway under that one's
  pub step-known : HaveNoGap g S → (e : List ℕ) → AddsNothingOwn g e (S ++ delta) delta
  step-known flush e = known-own g p.client S p.draft plan (flush p.client) p.is delta same e

  pub step-foreign : (other : ℕ) → ¬ (other ≡ g) → (e : List ℕ) (T : List Op) → AddsNothingOwn other e T delta
  step-foreign other h e T = known-others g p.client (seen_of S) p.draft plan p.is delta same other h e T

  -- what stands in it did not stand before
  pub step-new_operation : HaveNoGap g S → (c : List ℕ) (name : Stamp × ℕ) → is_some (operation_at c delta name) ≡ true → operation_at c S name ≡ None
  step-new_operation flush = new-operation S plan.ops (plan-fresh g p.client S p.draft plan p.is (flush p.client) p.apart) delta same

  pub step-new_put : HaveNoGap g S → (c : List ℕ) (name : ℕ × ℕ) → is_some (put_at c delta name) ≡ true → put_at c S name ≡ None
  step-new_put flush = new-put S plan.ops (plan-fresh g p.client S p.draft plan p.is (flush p.client) p.apart) delta same

  pub step-new_retain : HaveNoGap g S → (t : List ℕ) (name : ℕ × ℕ) → is_some (retain_at t delta name) ≡ true → retain_at t S name ≡ None
  step-new_retain flush = new-retain S plan.ops (plan-fresh g p.client S p.draft plan p.is (flush p.client) p.apart) delta same
