-- One operation more in front of a list.
use Rattle.std.proofs.Common.{◌≡◌, ℕ, true, if◌then◌else◌, List, ◌∷◌, Some, None, sym, ap, ◌∙◌, nat_eq}
use Rattle.std.specs.List.{cons_option}
use Rattle.std.specs.Cmp.Lexicographic.{pointwise, nat_list_eq_equiv}
use Rattle.std.specs.BTreeMap.{insert_entry}
use Rattle.std.specs.FinMap.{put as place}
use Rattle.sn_session.specs.declared.change.SessionOp.{SessionOp}
use Rattle.rep_op.specs.declared.op.Stamp.{Stamp}
use Rattle.rep_op.specs.declared.op.Op.{Op}
use Rattle.rep_op.specs.declared.op.Op.TheVariants.{Session as OfSession}
use Rattle.rep_op.specs.Orders.{operation_cmp}
use Rattle.rep_op.specs.Sets.{same_client, operations}
use Rattle.rep_model.specs.Views.{in_order}
use Rattle.rep_shared.proofs.Maps.{insert_is_put}

-- the test of two clients the other way round
pub same_back : (c d : List ℕ) → pointwise nat_eq d c ≡ true → same_client c d ≡ true
same_back c d h = nat_list_eq_equiv.symm c d ∙ h

pub entered_operation : (c d : List ℕ) (stamp : Stamp) (counter : ℕ) (change : SessionOp) (op : Op) (S : List Op) (es : List ((Stamp × ℕ) × SessionOp)) → op ≡ OfSession d stamp counter change → pointwise nat_eq d c ≡ true → es ≡ in_order operation_cmp (operations c S) → insert_entry operation_cmp es (stamp, counter) change ≡ in_order operation_cmp (operations c (op ∷ S))
entered_operation c d stamp counter change op S es is same h =
    insert_is_put operation_cmp (stamp, counter) change es
    ∙ ap (λ rest. place operation_cmp (stamp, counter) change rest) h
    ∙ sym (ap (λ o. in_order operation_cmp (operations c (o ∷ S))) is ∙ ap (λ b. in_order operation_cmp (cons_option (if b then Some ((stamp, counter), change) else None) (operations c S))) (same_back c d same))
