-- worked examples of the definitions
use Rattle.std.proofs.Common.{◌≡◌, true, false, [], ◌∷◌, take, None, Some, refl}
use Rattle.std.specs.Prelude.{codes}
use Rattle.mq_packet.specs.declared.fault.PacketFault.TheVariants as faults
use Rattle.mq_packet.specs.declared.packet.Delivery.TheVariants as deliveries
use Rattle.mq_packet.specs.declared.packet.Packet.TheVariants as packets
use Rattle.mq_packet.specs.declared.packet.Qos.TheVariants as levels
use Rattle.mq_packet.specs.Faults.{first_octet_fault}
use Rattle.mq_packet.specs.Grammar.{fewest, length_in, packet_spelling}

-- the sizes of the standard's table: 127, 128, 16,383, 16,384, 2,097,151, 2,097,152 and 268,435,455
one-octet : length_in (fewest 127) 127 ≡ 0x7F ∷ []
one-octet = refl

two-octets : (length_in (fewest 128) 128 ≡ 0x80 ∷ 0x01 ∷ []) × (length_in (fewest 16383) 16383 ≡ 0xFF ∷ 0x7F ∷ [])
two-octets = (refl, refl)

three-octets : (length_in (fewest 16384) 16384 ≡ 0x80 ∷ 0x80 ∷ 0x01 ∷ []) × (length_in (fewest 2097151) 2097151 ≡ 0xFF ∷ 0xFF ∷ 0x7F ∷ [])
three-octets = (refl, refl)

four-octets : (length_in (fewest 2097152) 2097152 ≡ 0x80 ∷ 0x80 ∷ 0x80 ∷ 0x01 ∷ []) × (length_in (fewest 268435455) 268435455 ≡ 0xFF ∷ 0xFF ∷ 0xFF ∷ 0x7F ∷ [])
four-octets = (refl, refl)

-- a longer Remaining Length of 0
long-zero : length_in 1 0 ≡ 0x80 ∷ 0 ∷ []
long-zero = refl

-- `t/a` with the message `hi`, at both qualities of service
once-spelled : packet_spelling (packets.Publish deliveries.Once true (codes "t/a") (codes "hi")) ≡ 0x31 ∷ 7 ∷ 0 ∷ 3 ∷ 0x74 ∷ 0x2F ∷ 0x61 ∷ 0x68 ∷ 0x69 ∷ []
once-spelled = refl

again-spelled : packet_spelling (packets.Publish (deliveries.Acknowledged 258 true) false (codes "t/a") (codes "hi")) ≡ 0x3A ∷ 9 ∷ 0 ∷ 3 ∷ 0x74 ∷ 0x2F ∷ 0x61 ∷ 1 ∷ 2 ∷ 0x68 ∷ 0x69 ∷ []
again-spelled = refl

-- CONNECT of the client `b1`, whose session is kept, for 30 seconds
connect-spelled : packet_spelling (packets.Connect false 30 (codes "b1") None None) ≡ 0x10 ∷ 14 ∷ 0 ∷ 4 ∷ 0x4D ∷ 0x51 ∷ 0x54 ∷ 0x54 ∷ 4 ∷ 0 ∷ 0 ∷ 30 ∷ 0 ∷ 2 ∷ 0x62 ∷ 0x31 ∷ []
connect-spelled = refl

-- a will at quality of service 1 that is retained, a user and a password: the flags are EE
marks-spelled : take 10 (packet_spelling (packets.Connect true 1 (codes "b1") (Some (record { topic = codes "w"; message = codes "away"; qos = levels.One; retain = true })) (Some (record { user = codes "u"; password = Some (codes "p") })))) ≡ 0x10 ∷ 29 ∷ 0 ∷ 4 ∷ 0x4D ∷ 0x51 ∷ 0x54 ∷ 0x54 ∷ 4 ∷ 0xEE ∷ []
marks-spelled = refl

-- SUBSCRIBE to `c/#` at quality of service 1, and its SUBACK
subscribe-spelled : packet_spelling (packets.Subscribe 7 (codes "c/#") levels.One) ≡ 0x82 ∷ 8 ∷ 0 ∷ 7 ∷ 0 ∷ 3 ∷ 0x63 ∷ 0x2F ∷ 0x23 ∷ 1 ∷ []
subscribe-spelled = refl

refused-spelled : packet_spelling (packets.SubAck 7 None) ≡ 0x90 ∷ 3 ∷ 0 ∷ 7 ∷ 0x80 ∷ []
refused-spelled = refl

-- first octets that no packet has: type 0 and 15, PUBREL, PUBLISH at quality of service 2 and at 3, SUBSCRIBE without its flags
refused-heads : (first_octet_fault 0x00 ≡ faults.UnknownType 0x00) × (first_octet_fault 0xF0 ≡ faults.UnknownType 0xF0) × (first_octet_fault 0x62 ≡ faults.QosTwo 0x62)
    × (first_octet_fault 0x34 ≡ faults.QosTwo 0x34) × (first_octet_fault 0x36 ≡ faults.Flags 0x36) × (first_octet_fault 0x80 ≡ faults.Flags 0x80)
refused-heads = (refl, refl, refl, refl, refl, refl)
