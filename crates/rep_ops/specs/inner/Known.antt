-- What a reader reads that knows some versions alone.
use Rattle.std.specs.Prelude.{List}
use Rattle.rep_op.specs.declared.op.Op.{Op}
use Rattle.rep_op.specs.declared.version.Version.{Version}
use Rattle.rep_op.specs.declared.version.Version.TheVariants.{One, Two}
use Rattle.rep_read.specs.Reading.{Reader, op_at}
use Rattle.rep_ops.specs.Reading.{text_at, may_follow, delta_at}

-- the reader of operations that knows this version and those before it
abbrev pub known_at : Version → Reader (List Op)
known_at One = text_at (op_at One) may_follow
known_at Two = delta_at
