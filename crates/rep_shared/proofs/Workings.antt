-- Names that wait, found by way of their order.
use Rattle.std.proofs.Common.{◌≡◌, ℕ, suc, true, false, cond, List, [], ◌∷◌, length, filter, count_by, Option, refl, sym, ap, ◌∙◌}
use Rattle.std.specs.Map.{keys_of}
use Rattle.std.proofs.lemmas.List.Sums.{length-filter}
use Rattle.sn_session.specs.declared.change.SessionOp.{SessionOp}
use Rattle.rep_op.specs.declared.op.Stamp.{Stamp}
use Rattle.rep_op.specs.declared.op.Op.{Op}
use Rattle.rep_op.specs.Orders.{operation_cmp}
use Rattle.rep_op.specs.Sets.{operations}
use Rattle.rep_model.specs.Views.{visible, in_order, history}
use Rattle.rep_model.specs.Limits.{is_parked, parked}
use Rattle.rep_shared.specs.Steps.{waits}

filter_names : (seen : Option Stamp) (prefix : ℕ) (known : List ((Stamp × ℕ) × SessionOp)) → length (filter (waits seen prefix) (keys_of known)) ≡ length (filter (is_parked seen prefix) known)
filter_names seen prefix [] = refl
filter_names seen prefix (e ∷ known) =
    let rest = filter_names seen prefix known in
    elim (waits seen prefix e.0) as (λ b. length (cond b (e.0 ∷ filter (waits seen prefix) (keys_of known)) (filter (waits seen prefix) (keys_of known))) ≡ length (cond b (e ∷ filter (is_parked seen prefix) known) (filter (is_parked seen prefix) known))) [
      | true ↦ ap suc rest
      | false ↦ rest
    ]

-- the names that wait are those of the parked operations
pub parked_names : (c : List ℕ) (S : List Op) (known : List ((Stamp × ℕ) × SessionOp)) (seen : Option Stamp) (prefix : ℕ) → known ≡ in_order operation_cmp (operations c S) → seen ≡ visible c S → prefix ≡ length (history c S) → count_by (waits seen prefix) (keys_of known) ≡ length (parked c S)
parked_names c S known seen prefix k v p =
    sym (length-filter (waits seen prefix) (keys_of known)) ∙ filter_names seen prefix known ∙ (λ i. length (filter (is_parked (v i) (p i)) (k i)))
