-- The body of each packet, MQTT 3.1.1 section 3: its octets, and the values that its parts may
-- have.
use Rattle.std.specs.Prelude.{◌≡◌, ℕ, ◌+◌, ◌*◌, ◌^◌, ◌<◌, ◌≤◌, Bool, true, false, List, [], ◌∷◌, ◌++◌, length, Option, Some, None, IfSome, is_some}
use Rattle.byteorder.specs.Endian.{big_bytes}
use Rattle.mq_packet.specs.declared.header.Header.{Header}
use Rattle.mq_packet.specs.declared.header.Header.TheVariants as headers
use Rattle.mq_packet.specs.declared.packet.Delivery.{Delivery}
use Rattle.mq_packet.specs.declared.packet.Delivery.TheVariants as deliveries
use Rattle.mq_packet.specs.declared.packet.Login.{Login}
use Rattle.mq_packet.specs.declared.packet.Packet.{Packet}
use Rattle.mq_packet.specs.declared.packet.Packet.TheVariants as packets
use Rattle.mq_packet.specs.declared.packet.Qos.{Qos}
use Rattle.mq_packet.specs.declared.packet.Qos.TheVariants as levels
use Rattle.mq_packet.specs.declared.packet.Will.{Will}
use Rattle.mq_packet.specs.Text.{IsData, IsText, IsFilterText, IsTopicText}

-- which publication it is (3.3.1)
abbrev pub publication_of : Delivery → Bool → Header
publication_of deliveries.Once retain = headers.PublishOnce retain
publication_of (deliveries.Acknowledged id dup) retain = headers.PublishAcknowledged dup retain

-- which packet it is, with the flags of its first octet
abbrev pub header_of : Packet → Header
header_of (packets.Connect clean keep_alive client will login) = headers.Connect
header_of (packets.ConnAck session code) = headers.ConnAck
header_of (packets.Publish delivery retain topic body) = publication_of delivery retain
header_of (packets.PubAck id) = headers.PubAck
header_of (packets.Subscribe id filter qos) = headers.Subscribe
header_of (packets.SubAck id granted) = headers.SubAck
header_of (packets.Unsubscribe id filter) = headers.Unsubscribe
header_of (packets.UnsubAck id) = headers.UnsubAck
header_of packets.PingReq = headers.PingReq
header_of packets.PingResp = headers.PingResp
header_of packets.Disconnect = headers.Disconnect

-- a bit that is set, or not
abbrev pub bit : Bool → ℕ
bit true = 1
bit false = 0

-- the number of a quality of service (4.3)
abbrev pub qos_number : Qos → ℕ
qos_number levels.Zero = 0
qos_number levels.One = 1

-- the return code of SUBACK: what is granted, or 80 in hexadecimal (3.9.3)
abbrev pub grant_number : Option Qos → ℕ
grant_number None = 0x80
grant_number (Some qos) = qos_number qos

-- a string or data with its length in two octets in front (1.5.3)
abbrev pub data_octets : List ℕ → List ℕ
data_octets octets = big_bytes 2 (length octets) ++ octets

-- the packet id, if the publication has one (3.3.2.2)
abbrev pub delivery_octets : Delivery → List ℕ
delivery_octets deliveries.Once = []
delivery_octets (deliveries.Acknowledged id dup) = big_bytes 2 id

-- the flags of CONNECT that are of the will: 4, its quality of service times 8, 32 for RETAIN
-- (3.1.2.5 to 3.1.2.7)
abbrev pub will_bits : Option Will → ℕ
will_bits None = 0
will_bits (Some will) = 4 + 8 * qos_number will.qos + 32 * bit will.retain

-- those of the login: 128 for the user, 64 for the password (3.1.2.8, 3.1.2.9)
abbrev pub login_bits : Option Login → ℕ
login_bits None = 0
login_bits (Some login) = 128 + 64 * bit (is_some login.password)

-- the topic and the message of the will (3.1.3.2, 3.1.3.3)
abbrev pub will_strings : Option Will → List ℕ
will_strings None = []
will_strings (Some will) = data_octets will.topic ++ data_octets will.message

-- a password, if there is one
abbrev pub password_octets : Option (List ℕ) → List ℕ
password_octets None = []
password_octets (Some password) = data_octets password

-- the user and the password (3.1.3.4, 3.1.3.5)
abbrev pub login_octets : Option Login → List ℕ
login_octets None = []
login_octets (Some login) = data_octets login.user ++ password_octets login.password

-- the name of the protocol, `MQTT` with its length, and the protocol level 4 (3.1.2.1, 3.1.2.2)
abbrev pub protocol : List ℕ
protocol = 0 ∷ 4 ∷ 77 ∷ 81 ∷ 84 ∷ 84 ∷ 4 ∷ []

-- the octets of a packet after Remaining Length (3)
abbrev pub packet_body : Packet → List ℕ
packet_body (packets.Connect clean keep_alive client will login) =
    protocol ++ (2 * bit clean + will_bits will + login_bits login) ∷ big_bytes 2 keep_alive
    ++ data_octets client ++ will_strings will ++ login_octets login
packet_body (packets.ConnAck session code) = bit session ∷ code ∷ []
packet_body (packets.Publish delivery retain topic body) =
    data_octets topic ++ delivery_octets delivery ++ body
packet_body (packets.PubAck id) = big_bytes 2 id
packet_body (packets.Subscribe id filter qos) =
    big_bytes 2 id ++ data_octets filter ++ qos_number qos ∷ []
packet_body (packets.SubAck id granted) = big_bytes 2 id ++ grant_number granted ∷ []
packet_body (packets.Unsubscribe id filter) = big_bytes 2 id ++ data_octets filter
packet_body (packets.UnsubAck id) = big_bytes 2 id
packet_body packets.PingReq = []
packet_body packets.PingResp = []
packet_body packets.Disconnect = []

-- a packet id is not 0 (2.3.1)
abbrev pub IsId : ℕ → Type 0
IsId id = 0 < id

-- what a publication's delivery may be
abbrev pub IsDelivery : Delivery → Type 0
IsDelivery deliveries.Once = Unit {0}
IsDelivery (deliveries.Acknowledged id dup) = IsId id

-- what the will may be (3.1.3.2, 3.1.3.3)
abbrev pub IsWill : Will → Type 0
IsWill will = IsTopicText will.topic × IsData will.message

-- what the login may be (3.1.3.4, 3.1.3.5)
abbrev pub IsLogin : Login → Type 0
IsLogin login = IsText login.user × IfSome login.password IsData

-- The return code of CONNACK is at most 5, and there is no session with another code than 0
-- (3.2.2.2, 3.2.2.3).
abbrev pub IsConnAckCode : Bool → ℕ → Type 0
IsConnAckCode true code = code ≡ 0
IsConnAckCode false code = code ≤ 5

-- Its parts have values that MQTT 3.1.1 allows.
abbrev pub IsAllowedPacket : Packet → Type 0
IsAllowedPacket (packets.Connect clean keep_alive client will login) =
    IsText client × IfSome will IsWill × IfSome login IsLogin
IsAllowedPacket (packets.ConnAck session code) = IsConnAckCode session code
IsAllowedPacket (packets.Publish delivery retain topic body) =
    IsDelivery delivery × IsTopicText topic
IsAllowedPacket (packets.PubAck id) = IsId id
IsAllowedPacket (packets.Subscribe id filter qos) = IsId id × IsFilterText filter
IsAllowedPacket (packets.SubAck id granted) = IsId id
IsAllowedPacket (packets.Unsubscribe id filter) = IsId id × IsFilterText filter
IsAllowedPacket (packets.UnsubAck id) = IsId id
IsAllowedPacket p = Unit {0}

-- a number of two octets
abbrev pub IsSixteenBits : ℕ → Type 0
IsSixteenBits n = n < 2 ^ 16

-- a publication's packet id has 16 bits
abbrev pub IsSixteen : Delivery → Type 0
IsSixteen deliveries.Once = Unit {0}
IsSixteen (deliveries.Acknowledged id dup) = IsSixteenBits id

-- The numbers of two octets in a packet have 16 bits. In a clause a number of a packet ranges over
-- all numbers.
abbrev pub IsPacketValue : Packet → Type 0
IsPacketValue (packets.Connect clean keep_alive client will login) = IsSixteenBits keep_alive
IsPacketValue (packets.Publish delivery retain topic body) = IsSixteen delivery
IsPacketValue (packets.PubAck id) = IsSixteenBits id
IsPacketValue (packets.Subscribe id filter qos) = IsSixteenBits id
IsPacketValue (packets.SubAck id granted) = IsSixteenBits id
IsPacketValue (packets.Unsubscribe id filter) = IsSixteenBits id
IsPacketValue (packets.UnsubAck id) = IsSixteenBits id
IsPacketValue p = Unit {0}
