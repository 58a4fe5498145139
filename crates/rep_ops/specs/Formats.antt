-- The format as a relation of octets with deltas.
use Rattle.std.specs.Prelude.{◌≡◌, ℕ, List}
use Rattle.rep_op.specs.declared.op.Op.{Op}
use Rattle.rep_ops.specs.Deltas.{IsDelta}
use Rattle.rep_ops.specs.Spelling.{delta_spelling, IsDeltaWithinLimit}

-- the octets are the spelling of this delta, and at most 8 MiB
pub record IsSpelled (bytes : List ℕ) (d : List Op) : Type 0 where
  pub delta : IsDelta d
  pub limit : IsDeltaWithinLimit d
  pub spelled : bytes ≡ delta_spelling d
