-- worked examples of the definitions
use Rattle.std.proofs.Common.{◌≡◌, ℕ, [], ◌∷◌, length, take, Some, inl, inr, refl, replicate, lit≤}
use Rattle.sn_frame.specs.declared.frame.Frame.{Frame}
use Rattle.sn_frame.specs.declared.frame.Frame.TheVariants as frames
use Rattle.sn_frame.specs.declared.flags.Qos.TheVariants as levels
use Rattle.sn_frame.specs.declared.flags.TopicIdType.TheVariants as kinds
use Rattle.sn_frame.specs.Bodies.{body_of}
use Rattle.sn_frame.specs.Faults.{said_total, type_place}
use Rattle.sn_frame.specs.FlagBits.{qos_of, kind_of}
use Rattle.sn_frame.specs.Grammar.{Spells, spelling}

-- a PUBLISH with so many octets in its body
abbrev publication : ℕ → Frame
publication size = frames.Publish (record { bits = 0 }) 1 0 (replicate size 0x2A)

-- 248 octets make the total 255, which is the last that one octet says
short-begins : take 2 (spelling (publication 248)) ≡ 0xFF ∷ 0x0C ∷ []
short-begins = refl

-- 249 octets make the total 258
long-begins : take 4 (spelling (publication 249)) ≡ 1 ∷ 1 ∷ 2 ∷ 0x0C ∷ []
long-begins = refl

long-length : length (spelling (publication 249)) ≡ 258
long-length = refl

-- a PINGREQ with the ClientId `abcdefgh`
abbrev ping : Frame
ping = frames.PingReq (0x61 ∷ 0x62 ∷ 0x63 ∷ 0x64 ∷ 0x65 ∷ 0x66 ∷ 0x67 ∷ 0x68 ∷ [])

-- both forms of Length spell it
short-ping : Spells (0x0A ∷ 0x16 ∷ body_of ping) ping
short-ping = record { message = lit≤ tt; framed = inl (lit≤ tt, refl) }

long-ping : Spells (1 ∷ 0 ∷ 0x0C ∷ 0x16 ∷ body_of ping) ping
long-ping = record { message = lit≤ tt; framed = inr (lit≤ tt, refl) }

-- CONNECT of the client `s1`, clean, for a minute
connect-spelled : spelling (frames.Connect (record { bits = 4 }) 1 60 (0x73 ∷ 0x31 ∷ [])) ≡ 8 ∷ 4 ∷ 4 ∷ 1 ∷ 0 ∷ 0x3C ∷ 0x73 ∷ 0x31 ∷ []
connect-spelled = refl

-- the totals that are said by `00`, `010003`, `021673` and a lone `01`
said-zero : said_total (0 ∷ []) ≡ 0
said-zero = refl

said-three : said_total (1 ∷ 0 ∷ 3 ∷ []) ≡ 3
said-three = refl

said-two : said_total (2 ∷ 0x16 ∷ 0x73 ∷ []) ≡ 2
said-two = refl

said-one : said_total (1 ∷ []) ≡ 1
said-one = refl

-- encapsulation, whose Length counts its header alone
capsule : type_place (4 ∷ 0xFE ∷ 0 ∷ 0xAA ∷ 2 ∷ 0x16 ∷ []) ≡ Some 0xFE
capsule = refl

-- flags e3: QoS -1 and the reserved type; 22: QoS 1 and a short name
flags-e3 : (qos_of 0xE3 ≡ levels.MinusOne) × (kind_of 0xE3 ≡ kinds.Reserved)
flags-e3 = (refl, refl)

flags-22 : (qos_of 0x22 ≡ levels.One) × (kind_of 0x22 ≡ kinds.Short)
flags-22 = (refl, refl)
