-- What is known of a delta's octets while operations are added to it.
use Rattle.std.specs.Prelude.{◌≡◌, List, length}
use Rattle.std.specs.List.{list_any}
use Rattle.rep_op.specs.declared.op.Op.{Op}
use Rattle.rep_op.specs.declared.version.Version.TheVariants.{One, Two}
use Rattle.rep_op.specs.Versions.{needs_two}
use Rattle.rep_ops.specs.declared.measure.Measure.{Measure}
use Rattle.rep_ops.specs.Spelling.{spelled_in}

-- the octets of the operations by each version, and whether they need version 2
pub record IsMeasure (measure : Measure) (ops : List Op) : Type 0 where
  pub one : measure.one ≡ length (spelled_in One ops)
  pub two : measure.two ≡ length (spelled_in Two ops)
  pub needed : measure.is_two ≡ list_any needs_two ops
