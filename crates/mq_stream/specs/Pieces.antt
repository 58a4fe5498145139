-- What is read of a stream of packets.
use Rattle.std.specs.Prelude.{◌≡◌, ◌≢◌, ℕ, ◌-◌, ◌<◌, ◌≤◌, ◌⊎◌, nat_lt, if◌then◌else◌, List, [], ◌∷◌, length, take, drop, Option, Some, None}
use Rattle.mq_packet.specs.declared.fault.PacketFault.{PacketFault}
use Rattle.mq_packet.specs.declared.fault.PacketFault.TheVariants as faults
use Rattle.mq_packet.specs.declared.packet.Packet.{Packet}
use Rattle.mq_packet.specs.Bodies.{IsAllowedPacket, packet_body, header_of}
use Rattle.mq_packet.specs.Faults.{IsFirstPacketFault, IsHeadFault, IsHeadThen}
use Rattle.mq_packet.specs.Grammar.{IsPacketFramed, IsSaid}
use Rattle.mq_packet.specs.Headers.{header_octet}
use Rattle.mq_stream.specs.declared.front.TheConstants.{MAX_HELD}

-- how many octets of a body are held
abbrev pub held : ℕ → ℕ
held said = if nat_lt MAX_HELD said then MAX_HELD else said

-- The octets are a first octet, a Remaining Length that says this size, and what follows it.
pub record IsHead (octets : List ℕ) (first said : ℕ) (body : List ℕ) : Type 0 where
  pub after : List ℕ
  pub begins : octets ≡ first ∷ after
  pub says : IsSaid after said body

-- The packet has this first octet and this body, and values that are allowed.
pub record SaysPacket (first : ℕ) (body : List ℕ) (packet : Packet) : Type 0 where
  pub message : IsAllowedPacket packet
  pub octet : header_octet (header_of packet) ≡ first
  pub whole : packet_body packet ≡ body

-- The octets begin with this packet, of whose body what is held is there; so many octets more
-- belong to it, and the rest follows what is held.
pub record IsPiece (octets : List ℕ) (packet : Packet) (over : ℕ) (rest : List ℕ) : Type 0 where
  pub first : ℕ
  pub said : ℕ
  pub body : List ℕ
  pub head : IsHead octets first said body
  pub there : held said ≤ length body
  pub says : SaysPacket first (take (held said) body) packet
  pub left : over ≡ said - held said
  pub follows : rest ≡ drop (held said) body

-- The octets begin a packet of which less is there than is held.
pub record IsUnfinished (octets : List ℕ) : Type 0 where
  pub first : ℕ
  pub said : ℕ
  pub body : List ℕ
  pub head : IsHead octets first said body
  pub lacks : length body < held said

-- No packet is there as far as it is held: nothing is there, Remaining Length does not end, or the
-- body lacks octets.
abbrev pub LacksPacket : List ℕ → Type 0
LacksPacket octets = (octets ≡ []) ⊎ (IsHeadThen octets faults.Short ⊎ IsUnfinished octets)

-- The octets begin with the head of a packet that is there as far as it is held, and this is wrong
-- with it: with octets that have the same first octet, and as a body what is held.
pub record IsHeadRefused (octets : List ℕ) (fault : PacketFault) : Type 0 where
  pub first : ℕ
  pub said : ℕ
  pub body : List ℕ
  pub own : List ℕ
  pub head : IsHead octets first said body
  pub there : held said ≤ length body
  pub framed : IsPacketFramed own first (take (held said) body)
  pub why : IsFirstPacketFault own fault
  pub real : fault ≢ faults.Memory

-- The octets begin with what is no packet, and this is why: the first octet, Remaining Length, or
-- what is held of the packet.
abbrev pub IsFaulty : List ℕ → PacketFault → Type 0
IsFaulty octets fault =
    IsHeadFault octets fault
    ⊎ (((fault ≡ faults.TooLong) × IsHeadThen octets faults.TooLong) ⊎ IsHeadRefused octets fault)

-- and that is why no further packet was read, or there is a fault
abbrev pub EndsPackets : Option PacketFault → List ℕ → Type 0
EndsPackets None rest = LacksPacket rest
EndsPackets (Some fault) rest = IsFaulty rest fault

-- So many octets are passed over, and then come these packets; then so many are still to be passed
-- over, and the rest waits.
abbrev pub ReadsPackets : ℕ → List ℕ → List Packet → ℕ → List ℕ → Type 0
ReadsPackets over octets [] left rest = (left ≡ over - length octets) × (rest ≡ drop over octets)
ReadsPackets over octets (packet ∷ more) left rest =
    (next : ℕ) × (after : List ℕ) × IsPiece (drop over octets) packet next after
    × ReadsPackets next after more left rest
