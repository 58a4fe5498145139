-- A set as deltas, each but the last as full as it can be.
use Rattle.std.specs.Prelude.{◌≡◌, ◌≢◌, ◌<◌, List, [], ◌∷◌, ◌++◌, length}
use Rattle.std.specs.List.{AllByRecursion, flat_map}
use Rattle.rep_op.specs.declared.op.Op.{Op}
use Rattle.rep_ops.specs.Making.{IsDeltaOf}
use Rattle.rep_ops.specs.Spelling.{delta_spelling, max_octets, IsDeltaWithinLimit}

-- the operations of the deltas, one delta after the other
abbrev pub all_of : List (List Op) → List Op
all_of deltas = flat_map (λ d. d) deltas

-- a part has operations, and at most as many as fit
pub record IsPart (d : List Op) : Type 0 where
  pub some : d ≢ []
  pub within : IsDeltaWithinLimit d

-- with the first operation of the next part, the part would pass the limit
abbrev pub PassesLimit : List Op → List Op → Type 0
PassesLimit d [] = ⊥
PassesLimit d (op ∷ rest) = max_octets < length (delta_spelling (d ++ op ∷ []))

-- each part but the last is full
abbrev pub AreFull : List (List Op) → Type 0
AreFull [] = Unit {0}
AreFull (d ∷ []) = Unit {0}
AreFull (d ∷ next ∷ rest) = PassesLimit d next × AreFull (next ∷ rest)

-- a list of operations in parts, each but the last as full as it can be
pub record IsSplit (ops : List Op) (deltas : List (List Op)) : Type 0 where
  pub whole : all_of deltas ≡ ops
  pub parts : AllByRecursion IsPart deltas
  pub full : AreFull deltas

-- the deltas, one after the other, are the one delta of the set, as if its size had no limit
abbrev pub AreDeltasOf : List Op → List (List Op) → Type 0
AreDeltasOf S deltas = (whole : List Op) × IsDeltaOf S whole × IsSplit whole deltas
