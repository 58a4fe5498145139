-- The view and the counts of what is kept of a client.
use Rattle.std.proofs.Common.{◌≡◌, ℕ, not, cond, List, [], ◌∷◌, filter, length, count_by, Option, T, refl, sym, ap, ◌∙◌, subst}
use Rattle.std.specs.FinMap.{is_sorted}
use Rattle.std.specs.Map.{keys_of}
use Rattle.sn_session.specs.declared.session.Session.{Session}
use Rattle.sn_session.specs.declared.change.SessionOp.{SessionOp}
use Rattle.rep_op.specs.declared.op.Stamp.{Stamp}
use Rattle.rep_op.specs.declared.op.Put.{Put}
use Rattle.rep_op.specs.Orders.{operation_cmp}
use Rattle.rep_model.specs.Views.{in_order, session_made}
use Rattle.rep_model.specs.Limits.{parked, exceptions, acknowledged, above_a_gap, sum_to}
use Rattle.rep_model.proofs.Ranges.{same_ranges}
use Rattle.rep_model.proofs.Limits.{in-acknowledged, apart-acknowledged}
use Rattle.rep_shared.specs.Steps.{waits}
use Rattle.rep_shared.proofs.Workings.{parked_names}
use Rattle.rep_log.specs.Logs.{visible_in, history_in, IsFoldedOf}
use Rattle.rep_log.specs.Mail.{Range, is_uncovered, NoneCovered}
use Rattle.rep_log.specs.Origins.{ranges_of_origin, ranges_in, AreOrigins, origins_above_gaps}
use Rattle.rep_log.specs.Kept.{kept_ops}
use Rattle.rep_log.proofs.Logging.{NoneBelow}
use Rattle.rep_entry.proofs.Client.{kept_operations, kept_acknowledged}
use Rattle.rep_log.proofs.Acknowledged.{covers_at, apart_at}
use Rattle.rep_entry.proofs.Freshness.{in_order_sorted}

-- a log with equal parts is folded too
pub folded_as : (s t : Option Stamp) (n m : ℕ) (x y : Option Session) (es fs : List ((Stamp × ℕ) × SessionOp)) → s ≡ t → n ≡ m → x ≡ y → es ≡ fs → IsFoldedOf t m y fs → IsFoldedOf s n x es
folded_as s t n m x y es fs a b d e h = record {
  visible = a ∙ h.visible ∙ sym (ap visible_in e);
  prefix = b ∙ h.prefix ∙ sym (λ i. length (history_in (e i) (a i)));
  session = d ∙ h.session ∙ sym (λ i. session_made (history_in (e i) (a i)));
  none_below = subst (NoneBelow s) (sym e) (subst (λ s. NoneBelow s fs) (sym a) h.none_below);
}

-- where nothing is acknowledged all is left
pub left_all : (rs : List Range) (ps : List Put) → NoneCovered rs ps → filter (is_uncovered rs) ps ≡ ps
left_all rs [] h = refl
left_all rs (p ∷ ps) h = ap (λ b. cond (not b) (p ∷ filter (is_uncovered rs) ps) (filter (is_uncovered rs) ps)) h.0 ∙ ap (λ rest. p ∷ rest) (left_all rs ps h.1)

module _ (c : List ℕ) (es : List ((Stamp × ℕ) × SessionOp)) (ps : List Put) where
  pub parked_row : (rs : List Range) (stamp : Option Stamp) (n : ℕ) (made : Option Session) → IsFoldedOf stamp n made es → T (is_sorted operation_cmp es) → count_by (waits stamp n) (keys_of es) ≡ length (parked c (kept_ops c es ps rs))
  parked_row rs stamp n made h sorted =
      let all = kept_operations c es ps rs in
      let v = h.visible ∙ ap visible_in (sym all) in
      parked_names c (kept_ops c es ps rs) es stamp n
      (sym (ap (in_order operation_cmp) all ∙ in_order_sorted operation_cmp es sorted))
      v
      (h.prefix ∙ (λ i. length (history_in (sym all i) (v i))))

  acknowledged_row : (os : List (ℕ × List (ℕ × ℕ))) → AreOrigins os → (origin : ℕ) → ranges_of_origin origin os ≡ acknowledged c origin (kept_ops c es ps (ranges_in os))
  acknowledged_row os h origin =
      let S = kept_ops c es ps (ranges_in os) in
      same_ranges 1 0 (ranges_of_origin origin os) (acknowledged c origin S) (apart_at origin os h) (apart-acknowledged c origin S)
      (λ n. sym (covers_at (n, origin) os h.sorted) ∙ sym (kept_acknowledged c es ps (ranges_in os) (n, origin)) ∙ sym (in-acknowledged c origin n S))

  pub exceptions_row : (os : List (ℕ × List (ℕ × ℕ))) → AreOrigins os → origins_above_gaps os 255 ≡ exceptions c (kept_ops c es ps (ranges_in os))
  unfolding exceptions origins_above_gaps
  exceptions_row os h = λ i. sum_to (λ origin. above_a_gap (acknowledged_row os h origin i)) 255
