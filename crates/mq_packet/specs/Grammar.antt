-- A packet is its first octet, Remaining Length and a body, MQTT 3.1.1 section 2. Remaining Length
-- counts the octets of the body, and has one to four octets.
use Rattle.std.specs.Prelude.{◌≡◌, ℕ, zero, suc, ◌+◌, ◌/◌, ◌%◌, ◌^◌, ◌<◌, nat_lt, if◌then◌else◌, List, [], ◌∷◌, ◌++◌, length}
use Rattle.mq_packet.specs.declared.packet.Packet.{Packet}
use Rattle.mq_packet.specs.Bodies.{header_of, packet_body, IsAllowedPacket}
use Rattle.mq_packet.specs.Headers.{header_octet}

-- A number in octets of seven bits each, the lowest first, with so many octets in front of the
-- last. Those have 128 added, which says that another octet follows (2.2.3).
abbrev pub length_in : ℕ → ℕ → List ℕ
length_in zero n = n ∷ []
length_in (suc more) n = (n % 128 + 128) ∷ length_in more (n / 128)

-- The octets begin with a Remaining Length, of at most four octets, which says this size; the rest
-- follows.
pub record IsSaid (octets : List ℕ) (size : ℕ) (rest : List ℕ) : Type 0 where
  pub more : ℕ
  pub few : more < 4
  pub fits : size < 128 ^ (more + 1)
  pub spelled : octets ≡ length_in more size ++ rest

-- The octets are a first octet, the size of a body, and the body.
pub record IsPacketFramed (octets : List ℕ) (first : ℕ) (body : List ℕ) : Type 0 where
  pub after : List ℕ
  pub begins : octets ≡ first ∷ after
  pub said : IsSaid after (length body) body

-- The octets spell the packet: its values are allowed, and they are its first octet, the size of
-- its body, and its body.
pub record SpellsPacket (octets : List ℕ) (p : Packet) : Type 0 where
  pub message : IsAllowedPacket p
  pub framed : IsPacketFramed octets (header_octet (header_of p)) (packet_body p)

-- how many octets are in front of the last, if a size is said in as few octets as it can
abbrev pub fewest : ℕ → ℕ
fewest size =
    if nat_lt size 128 then 0
    else (if nat_lt size 16384 then 1 else (if nat_lt size 2097152 then 2 else 3))

-- the first octet, the size of the body in as few octets as it can, and the body
abbrev pub packet_framed : ℕ → List ℕ → List ℕ
packet_framed first body = first ∷ length_in (fewest (length body)) (length body) ++ body

-- the canonical spelling
abbrev pub packet_spelling : Packet → List ℕ
packet_spelling p = packet_framed (header_octet (header_of p)) (packet_body p)

-- how many octets the body has
abbrev pub packet_size : Packet → ℕ
packet_size p = length (packet_body p)
