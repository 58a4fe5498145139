-- The one spelling of an operation as octets, by version. Numbers have the most significant octet
-- first.
use Rattle.std.specs.Prelude.{ℕ, Bool, List, [], ◌∷◌, ◌++◌, length}
use Rattle.byteorder.specs.Endian.{big_bytes}
use Rattle.rep_op.specs.declared.op.Put.{Put}
use Rattle.rep_op.specs.declared.op.Retained.{Retained}
use Rattle.rep_op.specs.declared.op.Op.{Op}
use Rattle.rep_op.specs.declared.op.Op.TheVariants.{Session as OfSession, Put as OfPut, Ack, Retain as OfRetain}
use Rattle.rep_op.specs.declared.version.Version.{Version}
use Rattle.rep_op.specs.declared.version.Version.TheVariants.{One, Two}
use Rattle.rep_op.specs.Sessions.{text_octets, flag_octet, change_octets}

-- a client: one octet of length, and its octets
abbrev pub client_octets : List ℕ → List ℕ
client_octets name = length name ∷ name

-- whether a message was retained, and when it expires, which only version 2 says
abbrev pub later_octets : Version → Bool → ℕ → List ℕ
later_octets One retain expires = []
later_octets Two retain expires = flag_octet retain ∷ big_bytes 8 expires

-- a message: origin, sequence number, topic, quality of service, what version 2 says, and body
abbrev pub put_octets : Version → Put → List ℕ
put_octets version put =
    (put.origin ∷ big_bytes 8 put.seq) ++ text_octets put.topic
    ++ put.qos ∷ (later_octets version put.retain put.expires ++ text_octets put.body)

-- what is retained: clock, gateway, quality of service and body
abbrev pub retained_octets : Retained → List ℕ
retained_octets kept =
    big_bytes 8 kept.clock ++ kept.gateway ∷ kept.qos ∷ text_octets kept.body

-- an operation: its kind, its client or its topic, and its fields
abbrev pub op_octets : Version → Op → List ℕ
op_octets version (OfSession client stamp counter change) =
    1 ∷ client_octets client ++ big_bytes 8 stamp.epoch
    ++ stamp.gateway ∷ counter ∷ change_octets change
op_octets version (OfPut client put) = 2 ∷ client_octets client ++ put_octets version put
op_octets version (Ack client origin first last) =
    3 ∷ client_octets client ++ (origin ∷ big_bytes 8 first) ++ big_bytes 8 last
op_octets version (OfRetain topic kept) = 4 ∷ text_octets topic ++ retained_octets kept
