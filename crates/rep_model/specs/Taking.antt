-- When a replica refuses a delta.
use Rattle.std.specs.Prelude.{◌≡◌, ◌++◌, List, Some, None, Contains}
use Rattle.std.specs.List.{AllByRecursion}
use Rattle.rep_op.specs.declared.op.Op.{Op}
use Rattle.rep_op.specs.Orders.{subject_of}
use Rattle.rep_op.specs.Sets.{Agrees}
use Rattle.rep_model.specs.declared.fault.TakeFault.{TakeFault}
use Rattle.rep_model.specs.declared.fault.TakeFault.TheVariants.{Conflict, Full, Memory}
use Rattle.rep_model.specs.Limits.{first_passed}

-- no operation of the delta contradicts one that is kept under its name
abbrev pub AllAgree : List Op → List Op → Type 0
AllAgree K D = AllByRecursion (Agrees K) D

-- the delta can be taken: it contradicts nothing, and both together pass no limit
pub record Fits (K D : List Op) : Type 0 where
  pub agrees : AllAgree K D
  pub within : first_passed (K ++ D) ≡ None

-- Why the delta is refused. Conflict: an operation of this client or topic contradicts one that is
-- kept. Full: none contradicts, and both together pass this limit, the first of clients, pending,
-- parked, exceptions and retained. Memory: memory ran out.
abbrev pub IsFaultOf : List Op → List Op → TakeFault → Type 0
IsFaultOf K D (Conflict about) =
    (o : Op) × Contains D o × (subject_of o ≡ about) × (¬ (Agrees K o))
IsFaultOf K D (Full limit) = AllAgree K D × (first_passed (K ++ D) ≡ Some limit)
IsFaultOf K D Memory = Unit {0}
