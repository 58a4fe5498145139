-- A refusal by the table of topics is one of the whole; and the parts of a delta are well made.
use Rattle.std.proofs.Common.{◌≡◌, List, [], ◌∷◌, ◌++◌, Some, sym, subst}
use Rattle.rep_op.specs.declared.op.Op.{Op}
use Rattle.rep_op.specs.Orders.{AreOfClients, AreOfTopics}
use Rattle.rep_ops.specs.Making.{AreWellMade}
use Rattle.rep_model.specs.declared.fault.Limit.{Limit}
use Rattle.rep_model.specs.declared.fault.TakeFault.{TakeFault}
use Rattle.rep_model.specs.declared.fault.TakeFault.TheVariants.{Conflict, Full, Memory}
use Rattle.rep_model.specs.Limits.{first_passed}
use Rattle.rep_model.specs.Taking.{AllAgree, Fits, IsFaultOf}
use Rattle.rep_model.proofs.Beside.{conflict_back, full_back, agree_both}
use Rattle.rep_retain.specs.Refusals.{IsContradiction, IsFull}

pub made_parts : (xs ys : List Op) → AreWellMade (xs ++ ys) → AreWellMade xs × AreWellMade ys
made_parts [] ys h = (tt, h)
made_parts (x ∷ xs) ys h = let rest = made_parts xs ys h.1 in ((h.0, rest.0), rest.1)

module _ (A T C R : List Op) (a : AreOfClients A) (t : AreOfTopics T) (c : AreOfClients C) (r : AreOfTopics R) where
  pub refused_by_topics : (fault : TakeFault) → IsContradiction T R fault → IsFaultOf (A ++ T) (C ++ R) fault
  refused_by_topics (Conflict about) f = conflict_back A T C R a t c r about f
  refused_by_topics (Full limit) f = absurd f
  refused_by_topics Memory f = tt

  pub refused_by_room : Fits A C → AllAgree T R → (fault : TakeFault) → IsFull (T ++ R) fault → IsFaultOf (A ++ T) (C ++ R) fault
  refused_by_room ac tr (Conflict about) f = absurd f
  refused_by_room ac tr (Full limit) f = (
    agree_both A T C R a t c r ac.agrees tr,
    subst (λ (l : Limit). first_passed ((A ++ T) ++ (C ++ R)) ≡ Some l) (sym f.0) (full_back A T C R a t c r ac.within f.1),
  )
  refused_by_room ac tr Memory f = tt
