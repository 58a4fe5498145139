-- Which operations make a delta, and why others make none.
use Rattle.std.specs.Prelude.{◌<◌, List, length, IsTrue}
use Rattle.std.specs.List.{AllByRecursion}
use Rattle.rep_op.specs.declared.fault.OpsFault.{OpsFault}
use Rattle.rep_op.specs.declared.fault.OpsFault.TheVariants as faults
use Rattle.rep_op.specs.declared.op.Op.{Op}
use Rattle.rep_ops.specs.Deltas.{IsDelta}
use Rattle.rep_op.specs.Orders.{HasTwice}
use Rattle.rep_op.specs.Sets.{Same}
use Rattle.rep_ops.specs.Spelling.{delta_spelling, max_octets}
use Rattle.rep_op.specs.WellMade.{is_well_made}

-- each operation is well made: a delta may hold it
abbrev pub AreWellMade : List Op → Type 0
AreWellMade ops = AllByRecursion (λ op. IsTrue (is_well_made op)) ops

-- well made operations, no two of which have a name in common
pub record HaveOwnNames (ops : List Op) : Type 0 where
  pub well_made : AreWellMade ops
  pub once : ¬ (HasTwice ops)

-- the delta is the set of these operations
pub record IsDeltaOf (ops d : List Op) : Type 0 where
  pub delta : IsDelta d
  pub same : Same d ops

-- Why the operations make no delta. An operation that is not well made is reported before two of
-- one name, and these before the size. Memory may run out at any time.
abbrev pub IsRefusal : List Op → OpsFault → Type 0
IsRefusal ops faults.Kind = ¬ (AreWellMade ops)
IsRefusal ops faults.Twice = AreWellMade ops × HasTwice ops
IsRefusal ops faults.Limit =
    HaveOwnNames ops × ((d : List Op) × IsDeltaOf ops d × (max_octets < length (delta_spelling d)))
IsRefusal ops faults.Memory = Unit {0}
IsRefusal ops fault = ⊥
