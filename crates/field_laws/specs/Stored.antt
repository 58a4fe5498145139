-- A delta in a journal.
use Rattle.std.specs.Prelude.{ℕ, List, ◌++◌}
use Rattle.rep_op.specs.declared.op.Op.{Op}
use Rattle.rep_op.specs.Sets.{Same}
use Rattle.rep_ops.specs.Splitting.{all_of}
use Rattle.rep_model.specs.Keep.{keep}
use Rattle.jr_disk.specs.Disk.{Image}
use Rattle.jr_journal.specs.Records.{records}

-- The records of the gateway's image have the delta, up to what must be kept: with the delta, the
-- same must be kept as without it.
abbrev pub HasStored : ℕ → Image → List Op → Type 0
HasStored gateway image delta =
    Same (keep (all_of (records gateway image) ++ delta)) (keep (all_of (records gateway image)))
