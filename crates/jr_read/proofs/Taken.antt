-- Records that are taken one after the other.
use Rattle.std.proofs.Common.{◌≡◌, ℕ, ◌+◌, ◌<◌, List, [], ◌∷◌, ◌++◌, length, take, get_or, sym, ap, subst, ◌∙◌}
use Rattle.std.proofs.lemmas.List.{take_more}
use Rattle.rep_op.specs.declared.op.Op.{Op}
use Rattle.rep_ops.specs.Splitting.{all_of}
use Rattle.rep_ops.proofs.Splitting.{all_of_more}
use Rattle.rep_model.specs.Keep.{CountsAs, IsKeptOf}
use Rattle.rep_model.proofs.Joins.{counts-refl, counts-join}

pub counts_none : (kept : List Op) → kept ≡ [] → CountsAs (all_of []) kept
counts_none kept none = subst (λ (K : List Op). CountsAs [] K) (sym none) (counts-refl [])

pub counts_more : (deltas : List (List Op)) (i : ℕ) (delta kept after next : List Op) → i < length deltas → delta ≡ get_or deltas i delta → CountsAs (all_of (take i deltas)) kept → IsKeptOf (kept ++ delta) after → next ≡ after
    → CountsAs (all_of (take (i + 1) deltas)) next
counts_more deltas i delta kept after next within is counts h same =
    let more : all_of (take (i + 1) deltas) ≡ all_of (take i deltas) ++ delta =
    ap all_of (take_more deltas i delta within ∙ ap (λ x. take i deltas ++ x ∷ []) (sym is)) ∙ all_of_more (take i deltas) delta in
    subst (λ (S : List Op). CountsAs S next) (sym more) (counts-join (all_of (take i deltas)) kept delta next counts (subst (λ (K : List Op). IsKeptOf (kept ++ delta) K) (sym same) h))
