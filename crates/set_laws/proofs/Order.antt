-- The order of sets, up to what must be kept.
use Rattle.std.proofs.Common.{List, ◌++◌, sym, subst, append_assoc}
use Rattle.rep_op.specs.declared.op.Op.{Op}
use Rattle.rep_op.specs.Sets.{IsConsistent, Same}
use Rattle.rep_model.specs.Keep.{keep, CountsAs, Below}
use Rattle.rep_model.proofs.Thin.{same_kept, thin-keep, thin-same, thin-left}
use Rattle.rep_model.proofs.Joins.{same_sym, same_trans, counts-refl, counts-same, counts-more, same-twice, same-turned, below-left, below-right, below-least}
use Rattle.set_laws.specs.Joins.{IsLeastAbove}

-- ---- sets that stand for one element

pub counts-back : (A K : List Op) → CountsAs A K → CountsAs K A
counts-back A K h = same_sym h

pub counts-on : (A K L : List Op) → CountsAs A K → CountsAs K L → CountsAs A L
counts-on A K L h k = same_trans k h

kept-behind : (Y S : List Op) → Same (keep (Y ++ keep S)) (keep (Y ++ S))
kept-behind Y S = same_kept (Y ++ keep S) (Y ++ S) (thin-left (keep S) S (thin-keep S) Y)

-- with the same more in front of both
counts-behind : (Y S K : List Op) → CountsAs S K → CountsAs (Y ++ S) (Y ++ K)
counts-behind Y S K h =
    same_trans (same_sym (kept-behind Y K))
    (same_trans (same_kept (Y ++ keep K) (Y ++ keep S) (thin-left (keep K) (keep S) (thin-same (keep K) (keep S) h) Y)) (kept-behind Y S))

pub join-alike : (A B K L : List Op) → CountsAs A K → CountsAs B L → CountsAs (A ++ B) (K ++ L)
join-alike A B K L h k = counts-on (A ++ B) (K ++ B) (K ++ L) (counts-more A K B h) (counts-behind K B L k)

-- ---- the order

pub below-itself : (A : List Op) → Below A A
below-itself A = counts-same A (A ++ A) (same-twice A)

pub below-on : (A B C : List Op) → Below A B → Below B C → Below A C
below-on A B C h k =
    let more : Same (keep (A ++ (B ++ C))) (keep (A ++ C)) = counts-behind A C (B ++ C) k in
    let first : Same (keep ((A ++ B) ++ C)) (keep (B ++ C)) = counts-more B (A ++ B) C h in
    let turned : Same (keep (A ++ (B ++ C))) (keep (B ++ C)) = subst (λ T. Same (keep T) (keep (B ++ C))) (append_assoc A B C) first in
    same_trans (same_sym more) (same_trans turned k)

pub below-both : (A B : List Op) → IsConsistent (A ++ B) → Below A B → Below B A → CountsAs A B
below-both A B consistent h k =
    same_trans (same_sym h) (same_trans (counts-same (B ++ A) (A ++ B) (same-turned A B consistent)) k)

pub below-alike : (A B K L : List Op) → CountsAs A K → CountsAs B L → Below A B → Below K L
below-alike A B K L h k below = same_trans (join-alike A B K L h k) (same_trans below (same_sym k))

-- ---- joins

pub join-least : (A B : List Op) → IsConsistent (A ++ B) → IsLeastAbove A B (A ++ B)
join-least A B consistent = record { left = below-left A B; right = below-right A B consistent; least = λ C. below-least A B C }

pub join-alone : (A B J : List Op) → IsConsistent (J ++ (A ++ B)) → IsConsistent (A ++ B) → IsLeastAbove A B J → CountsAs J (A ++ B)
join-alone A B J consistent parts h =
    below-both J (A ++ B) consistent (h.least (A ++ B) (below-left A B) (below-right A B parts)) (below-least A B J h.left h.right)
