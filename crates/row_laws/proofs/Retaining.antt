-- What a plan retains is then what is retained of its topic, and of other topics nothing changes.
use Rattle.std.proofs.Common.{◌≡◌, ℕ, if◌then◌else◌, List, [], ◌∷◌, ◌++◌, Option, Some, None, IfSome, option_and_then, refl, sym, ap, ◌∙◌, append-nil}
use Rattle.std.specs.List.{cons_option}
use Rattle.std.specs.FinMap.{find}
use Rattle.std.proofs.lemmas.Option.{same_Some}
use Rattle.std.proofs.lemmas.List.Elements.{filter_map-append}
use Rattle.rep_op.specs.declared.op.Op.{Op}
use Rattle.rep_op.specs.declared.op.Retained.{Retained}
use Rattle.rep_op.specs.Orders.{clock_of, clock_cmp}
use Rattle.rep_op.specs.Sets.{retain_of, retains}
use Rattle.rep_model.specs.Views.{greatest, names, view}
use Rattle.rep_model.specs.Topics.{retained}
use Rattle.rep_model.specs.Fresh.{next_epoch, next_seq, next_clock}
use Rattle.rep_model.proofs.Topics.{next_clock-wins}
use Rattle.sn_plan.specs.declared.draft.Posted.{Posted}
use Rattle.sn_plan.specs.declared.plan.Plan.{Plan}
use Rattle.sn_plan.specs.Drafts.{Drafted}
use Rattle.sn_plan.specs.Numbering.{kept_as, retain_at_clock, with_retain}
use Rattle.sn_local.specs.Seen.{seen_of}
use Rattle.sn_plan.specs.Plans.{plan_of}
use Rattle.sn_plan.proofs.Lists.{map-some}
use Rattle.sn_local.proofs.Entries.{same_client-apart}
use Rattle.row_laws.proofs.Planned.{Parts, puts-passed}
use Rattle.row_laws.proofs.Freshness.{cut, handed-retains}

-- what is retained of a topic is read off what was retained of it
pub retained-by : (t : List ℕ) (A B : List Op) → retains t A ≡ retains t B → retained t A ≡ retained t B
retained-by t A B e = ap (λ (es : List ((ℕ × ℕ) × Retained)). option_and_then (λ n. find clock_cmp n es) (greatest clock_cmp (names es))) e

module _ (g : ℕ) (c : List ℕ) (S : List Op) (d : Drafted) (plan : Plan) (planned : plan_of g c (seen_of S) d ≡ Some plan) where
  abbrev seq_now : List ℕ → Option ℕ
  seq_now e = next_seq e g S

  abbrev clock_now : List ℕ → Option ℕ
  clock_now t = next_clock t S

  abbrev parts : Parts g c (view c S) (next_epoch c S) (λ e. next_seq e g S) (λ t. next_clock t S) d plan.ops
  parts = cut g c S d plan planned

  -- neither messages nor what is handed retains anything
  module _ (t : List ℕ) where
    kept-read : retains t plan.ops ≡ retains t parts.kept
    kept-read = puts-passed g seq_now clock_now d.expires (retain_of t) (λ p n. refl) d.puts parts.kept plan.ops parts.is_numbered

    none-read : retains t parts.handed ≡ []
    none-read = handed-retains g c S d plan planned t

    -- where something is retained it is all that is
    one-read : (op : Op) → parts.handed ++ op ∷ [] ≡ parts.kept → retains t plan.ops ≡ retains t (op ∷ [])
    one-read op is = kept-read ∙ ap (retains t) (sym is) ∙ filter_map-append (retain_of t) parts.handed (op ∷ []) ∙ ap (λ es. es ++ retains t (op ∷ [])) none-read

  pub plan-wins : (m : Posted) → d.retain ≡ Some m → (clock : ℕ) × (next_clock m.topic S ≡ Some clock) × (retained m.topic (S ++ plan.ops) ≡ Some (kept_as g m clock))
  plan-wins m is =
      let t : List ℕ = m.topic in
      let given : with_retain g clock_now (Some m) parts.handed ≡ Some parts.kept = ap (λ o. with_retain g clock_now o parts.handed) (sym is) ∙ parts.is_kept in
      let n = map-some (λ n. parts.handed ++ retain_at_clock g m n ∷ []) (next_clock t S) parts.kept given in
      let op : Op = retain_at_clock g m n.0 in
      let same : retains t (S ++ plan.ops) ≡ retains t (S ++ op ∷ []) =
      filter_map-append (retain_of t) S plan.ops ∙ ap (λ es. retains t S ++ es) (one-read t op n.2) ∙ sym (filter_map-append (retain_of t) S (op ∷ [])) in
      (n.0, n.1, retained-by t (S ++ plan.ops) (S ++ op ∷ []) same ∙ next_clock-wins t S (kept_as g m n.0) n.1)

  none-of : (t : List ℕ) (retain : Option Posted) → d.retain ≡ retain → IfSome retain (λ m. ¬ (m.topic ≡ t)) → retains t plan.ops ≡ []
  none-of t None is h =
      let given : with_retain g clock_now None parts.handed ≡ Some parts.kept = ap (λ o. with_retain g clock_now o parts.handed) (sym is) ∙ parts.is_kept in
      kept-read t ∙ ap (retains t) (sym (same_Some parts.handed parts.kept given)) ∙ none-read t
  none-of t (Some m) is h =
      let given : with_retain g clock_now (Some m) parts.handed ≡ Some parts.kept = ap (λ o. with_retain g clock_now o parts.handed) (sym is) ∙ parts.is_kept in
      let n = map-some (λ n. parts.handed ++ retain_at_clock g m n ∷ []) (next_clock m.topic S) parts.kept given in
      let kept : Retained = kept_as g m n.0 in
      one-read t (retain_at_clock g m n.0) n.2
      ∙ ap (λ b. cons_option (if b then Some (clock_of kept, kept) else None) []) (same_client-apart t m.topic (λ e. h (sym e)))

  pub plan-others : (t : List ℕ) → IfSome d.retain (λ m. ¬ (m.topic ≡ t)) → retained t (S ++ plan.ops) ≡ retained t S
  plan-others t h =
      retained-by t (S ++ plan.ops) S
      (filter_map-append (retain_of t) S plan.ops ∙ ap (λ es. retains t S ++ es) (none-of t d.retain refl h) ∙ append-nil (retains t S))
