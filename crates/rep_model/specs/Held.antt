-- What a gateway may not forget of a set, as deltas.
use Rattle.std.specs.Prelude.{List}
use Rattle.rep_op.specs.declared.op.Op.{Op}
use Rattle.rep_ops.specs.Splitting.{AreDeltasOf}
use Rattle.rep_model.specs.Keep.{keep}

-- what must be kept of the set, in the order of the names, as deltas; each but the last is as full
-- as it can be
abbrev pub IsHeld : List Op → List (List Op) → Type 0
IsHeld S deltas = AreDeltasOf (keep S) deltas
