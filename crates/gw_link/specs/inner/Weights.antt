-- As how many octets an operation counts that comes over a link, or goes over it.
use Rattle.std.specs.Prelude.{ℕ, ◌+◌, length}
use Rattle.rep_op.specs.declared.op.Op.{Op}
use Rattle.rep_op.specs.declared.op.Op.TheVariants.{Session as OfSession, Put as OfPut, Ack, Retain as OfRetain}

-- the octets of the message, if there is one, and some for the rest
abbrev pub weight_of : Op → ℕ
weight_of (OfSession client stamp counter change) = 128
weight_of (OfPut client put) = length put.body + 128
weight_of (Ack client origin first last) = 128
weight_of (OfRetain topic kept) = length kept.body + 384
