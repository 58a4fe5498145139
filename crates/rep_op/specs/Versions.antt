-- The versions of the format, and which of them an operation needs.
use Rattle.std.specs.Prelude.{ℕ, Bool, true, false, ◌||◌, nat_lt}
use Rattle.rep_op.specs.declared.op.Op.{Op}
use Rattle.rep_op.specs.declared.op.Op.TheVariants.{Session as OfSession, Put as OfPut, Ack, Retain as OfRetain}
use Rattle.rep_op.specs.declared.version.Version.{Version}
use Rattle.rep_op.specs.declared.version.Version.TheVariants.{One, Two}

-- the octet that a text of the version begins with
abbrev pub version_octet : Version → ℕ
version_octet One = 1
version_octet Two = 2

-- whether only version 2 can say it: a message that was retained or expires, or what is retained
abbrev pub needs_two : Op → Bool
needs_two (OfSession client stamp counter change) = false
needs_two (OfPut client put) = put.retain || nat_lt 0 put.expires
needs_two (Ack client origin first last) = false
needs_two (OfRetain topic kept) = true
