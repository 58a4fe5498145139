-- Deltas join the list, one after the other.
use Rattle.std.proofs.Common.{◌≡◌, List, [], ◌∷◌, ◌++◌, ap, ◌∙◌, append_assoc}
use Rattle.gw_event.specs.Event.{IsWritable}
use Rattle.rep_op.specs.declared.op.Op.{Op}
use Rattle.gw_world.specs.inner.Events.{Join}
use Rattle.std.specs.List.{AllByRecursion}

pub all_push : {X : Type 0} (P : X → Type 0) (xs : List X) (x : X) → AllByRecursion P xs → P x → AllByRecursion P (xs ++ x ∷ [])
all_push P [] x h p = (p, tt)
all_push P (y ∷ xs) x h p = (h.0, all_push P xs x h.1 p)

pub join_more : (deltas done mid next : List (List Op)) (delta : List Op) → Join deltas done mid → IsWritable delta → next ≡ mid ++ delta ∷ [] → Join deltas (done ++ delta ∷ []) next
join_more deltas done mid next delta (writable, is) one e =
    (all_push IsWritable done delta writable one, e ∙ (ap (λ (xs : List (List Op)). xs ++ delta ∷ []) is ∙ append_assoc deltas done (delta ∷ [])))

all-both : {X : Type 0} (P : X → Type 0) (xs ys : List X) → AllByRecursion P xs → AllByRecursion P ys → AllByRecursion P (xs ++ ys)
all-both P [] ys h k = k
all-both P (x ∷ xs) ys h k = (h.0, all-both P xs ys h.1 k)

-- lists of them, one after the other
pub join_both : (deltas first mid more next : List (List Op)) → Join deltas first mid → Join mid more next → Join deltas (first ++ more) next
join_both deltas first mid more next (one, is) (other, e) =
    (all-both IsWritable first more one other, e ∙ (ap (λ (xs : List (List Op)). xs ++ more) is ∙ append_assoc deltas first more))
