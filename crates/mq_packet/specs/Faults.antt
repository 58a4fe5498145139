-- What each refusal of octets means. They are looked for in the order UnknownType, QosTwo and Flags
-- of the first octet; Short and TooLong of Remaining Length; Length; Body.
use Rattle.std.specs.Prelude.{◌≡◌, ◌≢◌, ℕ, ◌<◌, ◌≤◌, ◌||◌, nat_lt, nat_le, if◌then◌else◌, ◌⊎◌, List, [], ◌∷◌, length, take}
use Rattle.std.specs.List.{AllByRecursion}
use Rattle.mq_packet.specs.declared.fault.PacketFault.{PacketFault}
use Rattle.mq_packet.specs.declared.fault.PacketFault.TheVariants as faults
use Rattle.mq_packet.specs.declared.header.Header.{Header}
use Rattle.mq_packet.specs.declared.packet.Packet.{Packet}
use Rattle.mq_packet.specs.Bodies.{IsPacketValue}
use Rattle.mq_packet.specs.Grammar.{IsPacketFramed, IsSaid, SpellsPacket}
use Rattle.mq_packet.specs.Headers.{is_qos_two, header_octet}

-- why no packet begins with the octet: type 0 or 15, quality of service 2, or other flags
abbrev pub first_octet_fault : ℕ → PacketFault
first_octet_fault octet =
    if nat_lt octet 0x10 || nat_le 0xF0 octet then faults.UnknownType octet
    else (if is_qos_two octet then faults.QosTwo octet else faults.Flags octet)

-- No packet begins with the octet, and this is why.
pub record IsOctetFault (octet : ℕ) (fault : PacketFault) : Type 0 where
  pub none : (header : Header) → header_octet header ≢ octet
  pub why : fault ≡ first_octet_fault octet

-- the octets begin with one that no packet begins with, and this is why
abbrev pub IsHeadFault : List ℕ → PacketFault → Type 0
IsHeadFault octets fault =
    (first : ℕ) × (after : List ℕ) × (octets ≡ first ∷ after) × IsOctetFault first fault

-- each octet says that another one follows
abbrev pub AreOpen : List ℕ → Type 0
AreOpen octets = AllByRecursion (λ octet. 128 ≤ octet) octets

-- why the octets after the first do not begin with a Remaining Length: they end before it does, or
-- the fourth is not its last
abbrev pub IsLengthFault : List ℕ → PacketFault → Type 0
IsLengthFault after faults.Short = (length after < 4) × AreOpen after
IsLengthFault after faults.TooLong = (4 ≤ length after) × AreOpen (take 4 after)
IsLengthFault after fault = ⊥

-- a packet begins with the first octet, and after it Remaining Length is wrong in this way
abbrev pub IsHeadThen : List ℕ → PacketFault → Type 0
IsHeadThen octets fault =
    (header : Header) × (after : List ℕ) × (octets ≡ header_octet header ∷ after)
    × IsLengthFault after fault

-- The octets spell some packet.
abbrev pub IsPacketSpelling : List ℕ → Type 0
IsPacketSpelling octets = (p : Packet) × (IsPacketValue p × SpellsPacket octets p)

-- The octets are to be refused so, and for no reason that is looked for earlier. Only a good packet
-- is refused because memory ran out.
abbrev pub IsFirstPacketFault : List ℕ → PacketFault → Type 0
IsFirstPacketFault octets (faults.UnknownType octet) = IsHeadFault octets (faults.UnknownType octet)
IsFirstPacketFault octets (faults.QosTwo octet) = IsHeadFault octets (faults.QosTwo octet)
IsFirstPacketFault octets (faults.Flags octet) = IsHeadFault octets (faults.Flags octet)
IsFirstPacketFault octets faults.Short = (octets ≡ []) ⊎ IsHeadThen octets faults.Short
IsFirstPacketFault octets faults.TooLong = IsHeadThen octets faults.TooLong
IsFirstPacketFault octets (faults.Length said held) =
    (header : Header) × (after : List ℕ) × (rest : List ℕ) × (octets ≡ header_octet header ∷ after)
    × IsSaid after said rest × (held ≡ length rest) × (said ≢ held)
IsFirstPacketFault octets faults.Body =
    ((header : Header) × (body : List ℕ) × IsPacketFramed octets (header_octet header) body)
    × ((p : Packet) → IsPacketValue p → SpellsPacket octets p → ⊥)
IsFirstPacketFault octets faults.Memory = IsPacketSpelling octets

-- the number that a refusal is printed by
abbrev pub packet_fault_number : PacketFault → ℕ
packet_fault_number (faults.UnknownType octet) = 1
packet_fault_number (faults.QosTwo octet) = 2
packet_fault_number (faults.Flags octet) = 3
packet_fault_number faults.Short = 4
packet_fault_number faults.TooLong = 5
packet_fault_number (faults.Length said held) = 6
packet_fault_number faults.Body = 7
packet_fault_number faults.Memory = 8
