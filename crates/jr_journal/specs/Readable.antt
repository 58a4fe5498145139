-- Records that are read again, alone and one behind the other.
use Rattle.std.specs.Prelude.{◌≡◌, ◌≤◌, ℕ, true, List, length, Ok}
use Rattle.std.specs.List.{AllByRecursion}
use Rattle.rep_op.specs.declared.op.Op.{Op}
use Rattle.rep_ops.specs.Reading.{delta_reading}
use Rattle.rep_ops.specs.Spelling.{max_octets}
use Rattle.jr_journal.specs.Records.{delta_bytes, written_all, found}

-- the delta is read again from its bytes, and a record can hold them
pub record IsReadable (delta : List Op) : Type 0 where
  pub read : delta_reading (delta_bytes delta) ≡ Ok delta
  pub limit : length (delta_bytes delta) ≤ max_octets

-- the deltas of records that stand one behind the other
abbrev pub deltas_in : List ℕ → List (List Op)
deltas_in bytes = (found 0 true bytes).deltas

-- the bytes are records one behind the other, and nothing else; each delta is read again
pub record AreRecords (bytes : List ℕ) : Type 0 where
  pub are : bytes ≡ written_all (deltas_in bytes)
  pub readable : AllByRecursion IsReadable (deltas_in bytes)
