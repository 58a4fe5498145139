-- A gateway stays flush.
use Rattle.std.proofs.Common.{◌≡◌, ℕ, ◌≤◌, true, false, List, [], ◌∷◌, ◌++◌, length, Option, Some, None, is_some, IfSome, refl, sym, ap, ◌∙◌, subst, true≢false}
use Rattle.std.specs.FinMap.{find}
use Rattle.std.proofs.lemmas.Option.{same_Some}
use Rattle.sn_session.specs.declared.change.SessionOp.{SessionOp}
use Rattle.sn_session.specs.declared.session.Session.{Session}
use Rattle.rep_op.specs.declared.op.Op.{Op}
use Rattle.rep_op.specs.Orders.{stamp_cmp, operation_cmp}
use Rattle.rep_op.specs.Sets.{Same, same_client, operations, operation_at}
use Rattle.rep_model.specs.Views.{visible, gapless, history_at, history, session_made}
use Rattle.rep_model.proofs.Lookup.{or_else}
use Rattle.rep_model.proofs.Greatest.{has, same_greatest}
use Rattle.rep_model.proofs.Readers.{stamp_total, stamp_exact, same_client-true, operation_at_both, takes, has_take}
use Rattle.rep_model.proofs.Thin.{some_left}
use Rattle.sn_plan.specs.declared.plan.Plan.{Plan}
use Rattle.sn_plan.specs.Drafts.{Drafted}
use Rattle.sn_local.specs.Seen.{seen_of}
use Rattle.sn_plan.specs.Plans.{plan_of}
use Rattle.sn_plan.specs.Own.{AddsNothingOwn}
use Rattle.sn_plan.specs.Flush.{stamp_of, IsFlush}
use Rattle.sn_local.proofs.Entries.{visible-same, same_client-itself, visible-by, visible-there, history-by}
use Rattle.row_laws.proofs.Reached.{At, history-own}
use Rattle.row_laws.proofs.Outcomes.{parts, operations-else, operations-plan, operations-unchanged, reached}

-- the same session operations of the client
pub flush-by : (g : ℕ) (c : List ℕ) (A B : List Op) → operations c A ≡ operations c B → IsFlush g c A → IsFlush g c B
flush-by g c A B same flush =
    let seen : visible c A ≡ visible c B = visible-by c A B same in
    let done : history c A ≡ history c B = history-by c A B same in
    record {
      begun = λ epoch e. ap (λ h. is_some (session_made h)) (sym done) ∙ flush.begun epoch (seen ∙ e);
      nothing_behind = λ epoch k e le. ap (λ es. find operation_cmp (stamp_of epoch g, k) es) (sym same) ∙ flush.nothing_behind epoch k (seen ∙ e) (subst (λ h. length h ≤ k) (sym done) le);
    }

pub flush-at : (g : ℕ) (c : List ℕ) (T : List Op) (epoch counter : ℕ) (next : Option ℕ) (session : Session) → At g c T epoch counter next session → IsFlush g c T
flush-at g c T epoch counter next session at = record {
  begun = λ _ _. ap is_some at.made;
  nothing_behind = λ other k e le.
      let same : stamp_of epoch g ≡ stamp_of other g = same_Some (stamp_of epoch g) (stamp_of other g) (sym at.seen ∙ e) in
      ap (λ s. operation_at c T (s, k)) (sym same) ∙ at.behind k (subst (λ n. n ≤ k) at.prefix le);
}

module _ (g : ℕ) (c : List ℕ) (S : List Op) (d : Drafted) (plan : Plan) (planned : plan_of g c (seen_of S) d ≡ Some plan) (flush : IsFlush g c S) where
  flush-own : IsFlush g c (S ++ plan.ops)
  flush-own = elim d.changes as (λ xs. d.changes ≡ xs → IsFlush g c (S ++ plan.ops)) [
    | [] ↦ λ none. flush-by g c S (S ++ plan.ops) (sym (operations-unchanged g c S d plan planned none)) flush
    | change ∷ rest ↦ λ e.
        let p = parts g c S d plan planned in
        let r = reached g c S d plan planned flush change rest e in
        flush-by g c (S ++ p.w.ops) (S ++ plan.ops) (sym (operations-plan g c S d plan planned c p)) (flush-at g c (S ++ p.w.ops) p.w.epoch p.w.counter p.w.next p.w.session r.at)
  ] refl

  pub flush-step : (e : List ℕ) → IsFlush g e S → IsFlush g e (S ++ plan.ops)
  flush-step e other = elim (same_client e c) as (λ b. same_client e c ≡ b → IsFlush g e (S ++ plan.ops)) [
    | true ↦ λ t. subst (λ x. IsFlush g x (S ++ plan.ops)) (sym (same_client-true e c t)) flush-own
    | false ↦ λ f. flush-by g e S (S ++ plan.ops) (sym (operations-else g c S d plan planned e (λ same. true≢false (sym (same_client-itself e) ∙ ap (same_client e) same ∙ f)))) other
  ] refl

known : {X : Type 0} (a b : Option X) → ((x : X) → b ≡ Some x → a ≡ Some x) → or_else a b ≡ a
known (Some x) b f = refl
known None None f = refl
known None (Some y) f = sym (f y refl)

module _ (g : ℕ) (c : List ℕ) (S D : List Op) (none : AddsNothingOwn g c S D) where
  -- at the gateway's own stamps nothing is new
  own-same : (epoch k : ℕ) → operation_at c (S ++ D) (stamp_of epoch g, k) ≡ operation_at c S (stamp_of epoch g, k)
  own-same epoch k = operation_at_both c S D (stamp_of epoch g, k) ∙ known (operation_at c S (stamp_of epoch g, k)) (operation_at c D (stamp_of epoch g, k)) (none epoch k)

  -- where the gateway's own stamp is the visible one, it was before
  seen-before : (epoch : ℕ) → visible c (S ++ D) ≡ Some (stamp_of epoch g) → visible c S ≡ visible c (S ++ D)
  seen-before epoch e = same_greatest stamp_cmp stamp_total stamp_exact (takes c S) (takes c (S ++ D))
      (λ s h. has_take c (S ++ D) s ∙ ap is_some (operation_at_both c S D (s, 0)) ∙ some_left (operation_at c S (s, 0)) (operation_at c D (s, 0)) (sym (has_take c S s) ∙ h))
      (subst (λ v. IfSome v (λ s. has stamp_cmp s (takes c S) ≡ true)) (sym e)
      (has_take c S (stamp_of epoch g) ∙ ap is_some (sym (own-same epoch 0)) ∙ visible-there c (S ++ D) (stamp_of epoch g) e))

  pub flush-taken : IsFlush g c S → IsFlush g c (S ++ D)
  flush-taken flush =
      let before : (epoch : ℕ) → visible c (S ++ D) ≡ Some (stamp_of epoch g) → visible c S ≡ Some (stamp_of epoch g) = λ epoch e. seen-before epoch e ∙ e in
      let done : (epoch : ℕ) → visible c (S ++ D) ≡ Some (stamp_of epoch g) → history c (S ++ D) ≡ history c S = λ epoch e.
      history-own c (S ++ D) (stamp_of epoch g) e
      ∙ ap (λ (at : ℕ → Option SessionOp). gapless at 256 0) (λ i k. own-same epoch k i)
      ∙ sym (history-own c S (stamp_of epoch g) (before epoch e)) in
      record {
        begun = λ epoch e. ap (λ h. is_some (session_made h)) (done epoch e) ∙ flush.begun epoch (before epoch e);
        nothing_behind = λ epoch k e le. own-same epoch k ∙ flush.nothing_behind epoch k (before epoch e) (subst (λ h. length h ≤ k) (done epoch e) le);
      }

pub flush-start : (g : ℕ) (c : List ℕ) → IsFlush g c []
flush-start g c = record {
  begun = λ epoch e. absurd (true≢false (sym (ap is_some e)));
  nothing_behind = λ epoch k e _. refl;
}

-- equal sets
pub flush-same : (g : ℕ) (c : List ℕ) (A B : List Op) → Same A B → IsFlush g c A → IsFlush g c B
flush-same g c A B same flush =
    let seen : visible c A ≡ visible c B = visible-same c A B (λ s. ap is_some (same.operations_same c (s, 0))) in
    let done : history c A ≡ history c B = λ i. history_at (λ name. same.operations_same c name i) (seen i) in
    record {
      begun = λ epoch e. ap (λ h. is_some (session_made h)) (sym done) ∙ flush.begun epoch (seen ∙ e);
      nothing_behind = λ epoch k e le. sym (same.operations_same c (stamp_of epoch g, k)) ∙ flush.nothing_behind epoch k (seen ∙ e) (subst (λ h. length h ≤ k) (sym done) le);
    }
