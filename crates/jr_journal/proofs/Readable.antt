-- A delta's bytes are read again, and a record is made of them.
use Rattle.std.proofs.Common.{◌≡◌, ℕ, List, ◌++◌}
use Rattle.rep_op.specs.declared.op.Op.{Op}
use Rattle.rep_ops.specs.Deltas.{IsDelta}
use Rattle.rep_ops.specs.Spelling.{delta_spelling, IsDeltaWithinLimit}
use Rattle.rep_op.specs.Values.{AreValues}
use Rattle.rep_ops.proofs.Format.{read_again}
use Rattle.jr_journal.specs.Records.{delta_bytes}
use Rattle.jr_journal.specs.Readable.{IsReadable}

pub readable : (delta : List Op) → IsDelta delta → AreValues delta → IsDeltaWithinLimit delta → IsReadable delta
unfolding delta_bytes
readable delta is values limit = record { read = read_again delta is values limit; limit = limit }

pub spelled : (delta : List Op) (old new : List ℕ) → new ≡ old ++ delta_spelling delta → new ≡ old ++ delta_bytes delta
unfolding delta_bytes
spelled delta old new e = e
