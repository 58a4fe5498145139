-- The first octet of each packet, MQTT 3.1.1 sections 2.2.1 and 2.2.2.
use Rattle.std.specs.Prelude.{ℕ, ◌==◌, Bool, true, false, [], ◌∷◌}
use Rattle.std.specs.List.{list_any}
use Rattle.mq_packet.specs.declared.header.Header.{Header}
use Rattle.mq_packet.specs.declared.header.Header.TheVariants as headers

-- the type in the upper four bits, the flags in the lower: in PUBLISH DUP is 8, the quality of
-- service 2 or 4 and RETAIN 1 (2.2.1, 2.2.2, 3.3.1)
abbrev pub header_octet : Header → ℕ
header_octet headers.Connect = 0x10
header_octet headers.ConnAck = 0x20
header_octet (headers.PublishOnce false) = 0x30
header_octet (headers.PublishOnce true) = 0x31
header_octet (headers.PublishAcknowledged false false) = 0x32
header_octet (headers.PublishAcknowledged false true) = 0x33
header_octet (headers.PublishAcknowledged true false) = 0x3A
header_octet (headers.PublishAcknowledged true true) = 0x3B
header_octet headers.PubAck = 0x40
header_octet headers.Subscribe = 0x82
header_octet headers.SubAck = 0x90
header_octet headers.Unsubscribe = 0xA2
header_octet headers.UnsubAck = 0xB0
header_octet headers.PingReq = 0xC0
header_octet headers.PingResp = 0xD0
header_octet headers.Disconnect = 0xE0

-- the first octets of quality of service 2: PUBLISH without and with DUP and RETAIN, PUBREC, PUBREL
-- and PUBCOMP (3.3.1, 3.5 to 3.7)
abbrev pub is_qos_two : ℕ → Bool
is_qos_two first =
    list_any (λ octet. octet == first)
    (0x34 ∷ 0x35 ∷ 0x3C ∷ 0x3D ∷ 0x50 ∷ 0x62 ∷ 0x70 ∷ [])
