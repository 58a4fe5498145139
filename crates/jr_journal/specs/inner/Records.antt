-- What a delta that cannot be read stands for.
use Rattle.std.specs.Prelude.{Option, Some, None}
use Rattle.rep_op.specs.declared.fault.OpsFault.{OpsFault}
use Rattle.rep_op.specs.declared.fault.OpsFault.TheVariants as faults
use Rattle.jr_journal.specs.declared.piece.Piece.{Piece}
use Rattle.jr_journal.specs.declared.piece.Piece.TheVariants.{Bad}

-- what a delta that is refused stands for; nothing if memory ran out
abbrev pub refusal : OpsFault → Option Piece
refusal faults.Memory = None
refusal fault = Some Bad
