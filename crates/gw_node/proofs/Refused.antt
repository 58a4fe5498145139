-- A set with some first ones of the deltas that were refused of it.
use Rattle.std.proofs.Common.{◌≡◌, ◌⊎◌, ℕ, zero, suc, List, [], ◌∷◌, ◌++◌, take, refl, sym, ap, ◌∙◌, subst, append-nil, append_assoc, inl, inr}
use Rattle.rep_op.specs.declared.op.Op.{Op}
use Rattle.rep_op.specs.Sets.{Within}
use Rattle.rep_ops.specs.Splitting.{all_of}
use Rattle.rep_model.specs.Keep.{CountsAs}
use Rattle.gw_event.specs.Gateways.{with_refused}
use Rattle.gw_node.specs.Taking.{IsBetween, IsWhole}

-- of no delta nothing comes back
pub none_refused : (n : ℕ) (S : List Op) → with_refused n S [] ≡ S
none_refused zero S = refl
none_refused (suc n) S = refl

pub without : (n : ℕ) (S : List Op) (refused : List (List Op)) → refused ≡ [] → with_refused n S refused ≡ S
without n S refused none = ap (λ (R : List (List Op)). with_refused n S R) none ∙ none_refused n S

-- of one delta nothing comes back, or the whole of it
pub one_refused : (n : ℕ) (S D : List Op) → (with_refused n S (D ∷ []) ≡ S) ⊎ (with_refused n S (D ∷ []) ≡ S ++ D)
one_refused zero S D = inl refl
one_refused (suc n) S D = inr (none_refused n (S ++ D))

-- what comes back stands behind the set
pub refused_is : (n : ℕ) (S : List Op) (refused : List (List Op)) → with_refused n S refused ≡ S ++ all_of (take n refused)
refused_is zero S refused = sym (append-nil S)
refused_is (suc n) S [] = sym (append-nil S)
refused_is (suc n) S (D ∷ refused) = refused_is n (S ++ D) refused ∙ append_assoc S D (all_of (take n refused))

-- what is said of one delta that was refused
pub single_whole : (S D J : List Op) → IsWhole S (D ∷ []) J → CountsAs S J ⊎ CountsAs (S ++ D) J
single_whole S D J h =
    elim (one_refused h.0 S D) [
      | inl none ↦ inl (subst (λ (T : List Op). CountsAs T J) none h.1)
      | inr whole ↦ inr (subst (λ (T : List Op). CountsAs T J) whole h.1)
    ]

pub single_within : (S D J : List Op) → IsBetween S (D ∷ []) J → Within J (S ++ D)
single_within S D J h = subst (λ (T : List Op). Within J (S ++ T)) (append-nil D) h.upper
