-- Link messages and their octets.
use Rattle.std.specs.Prelude.{ℕ, ◌≤◌, ◌<◌, ◌^◌, ◌==◌, if◌then◌else◌, nat_le, List, [], ◌∷◌, ◌++◌, length, Option, Some, None, Result, Ok, Err}
use Rattle.byteorder.specs.Endian.{big_bytes}
use Rattle.rep_op.specs.declared.fault.OpsFault.{OpsFault}
use Rattle.rep_ops.specs.Deltas.{IsDelta}
use Rattle.rep_ops.specs.Spelling.{delta_spelling, IsDeltaWithinLimit}
use Rattle.rep_op.specs.Values.{AreValues}
use Rattle.rep_ops.specs.Reading.{delta_reading}
use Rattle.rep_digest.specs.Reading.{digest_reading}
use Rattle.rep_digest.specs.Spelling.{digest_spelling, IsDigestWithinLimit}
use Rattle.rep_digest.specs.WellMade.{IsDigest}
use Rattle.gw_net.specs.declared.message.LinkMessage.{LinkMessage}
use Rattle.gw_net.specs.declared.message.LinkMessage.TheVariants.{Hello, Digest as OfDigest, Delta as OfDelta}

-- 1 a hello, 2 a digest, 3 a delta
abbrev pub message_kind : LinkMessage → ℕ
message_kind (Hello gateway) = 1
message_kind (OfDigest d) = 2
message_kind (OfDelta d) = 3

-- the body of a message: the gateway's number, or the spelling of the digest or the delta
abbrev pub body_of_message : LinkMessage → List ℕ
body_of_message (Hello gateway) = gateway ∷ []
body_of_message (OfDigest d) = digest_spelling d
body_of_message (OfDelta d) = delta_spelling d

-- a message: its kind, the length of its body, and the body
abbrev pub message_spelling : LinkMessage → List ℕ
message_spelling m =
    message_kind m ∷ (big_bytes 4 (length (body_of_message m)) ++ body_of_message m)

-- a hello of a gateway 1 to 255; or a digest or a delta, within its limit
abbrev pub IsLinkMessage : LinkMessage → Type 0
IsLinkMessage (Hello gateway) = (1 ≤ gateway) × (gateway < 2 ^ 8)
IsLinkMessage (OfDigest d) = IsDigest d × IsDigestWithinLimit d
IsLinkMessage (OfDelta d) = IsDelta d × AreValues d × IsDeltaWithinLimit d

-- a hello's gateway is not 0
abbrev pub IsNumbered : LinkMessage → Type 0
IsNumbered (Hello gateway) = 1 ≤ gateway
IsNumbered (OfDigest d) = Unit {0}
IsNumbered (OfDelta d) = Unit {0}

-- what was read, if it was
abbrev pub read_or_none : {A B : Type 0} → (A → B) → Result A OpsFault → Option B
read_or_none make (Ok x) = Some (make x)
read_or_none make (Err fault) = None

-- one octet that is not 0
abbrev pub hello_at : List ℕ → Option LinkMessage
hello_at [] = None
hello_at (gateway ∷ []) = if nat_le 1 gateway then Some (Hello gateway) else None
hello_at (gateway ∷ more ∷ rest) = None

-- the message that a body of the kind is, if it is one
unfoldable pub message_at : ℕ → List ℕ → Option LinkMessage
message_at kind body =
    if kind == 1 then hello_at body
    else (if kind == 2 then read_or_none (λ d. OfDigest d) (digest_reading body)
    else read_or_none (λ d. OfDelta d) (delta_reading body))
