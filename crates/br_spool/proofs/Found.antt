-- what was taken and not acknowledged is found again
use Rattle.std.proofs.Common.{◌≡◌, ◌∙◌, ℕ, Bool, false, cond, not, List, Some, None, ap}
use Rattle.rep_op.specs.declared.op.Op.{Op}
use Rattle.rep_op.specs.declared.op.Put.{Put}
use Rattle.rep_op.specs.Sets.{is_acknowledged, put_at}
use Rattle.rep_ops.specs.Splitting.{all_of}
use Rattle.rep_model.specs.Held.{IsHeld}
use Rattle.rep_model.specs.Keep.{CountsAs, keep}
use Rattle.rep_model.proofs.Readers.{put_at_keep}

pub found-again : (taken kept : List Op) (deltas : List (List Op)) → CountsAs taken kept → IsHeld kept deltas → (client : List ℕ) (seq origin : ℕ) (put : Put)
    → put_at client taken (seq, origin) ≡ Some put → is_acknowledged client taken (seq, origin) ≡ false → put_at client (all_of deltas) (seq, origin) ≡ Some put
found-again taken kept deltas counts held client seq origin put there left =
    let name : ℕ × ℕ = (seq, origin) in
    let whole : put_at client (all_of deltas) name ≡ put_at client held.0 name = ap (λ (ops : List Op). put_at client ops name) held.2.whole in
    let same : put_at client held.0 name ≡ put_at client (keep kept) name = held.1.same.puts_same client name in
    let counted : put_at client (keep kept) name ≡ put_at client (keep taken) name = counts.puts_same client name in
    let owed : put_at client (keep taken) name ≡ cond (not (is_acknowledged client taken name)) (put_at client taken name) None = put_at_keep client taken name in
    let open_is : cond (not (is_acknowledged client taken name)) (put_at client taken name) None ≡ put_at client taken name =
    ap (λ (b : Bool). cond (not b) (put_at client taken name) None) left in
    whole ∙ same ∙ counted ∙ owed ∙ open_is ∙ there
