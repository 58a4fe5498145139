-- What the readers of `decode` make of a body. They alone cite this file: `decode` is stated by the
-- grammar.
use Rattle.std.specs.Prelude.{◌≡◌, ◌≢◌, ℕ, ◌+◌, ◌*◌, ◌/◌, ◌%◌, ◌==◌, Bool, true, false, not, nat_lt, nat_le, ◌&&◌, ◌||◌, is_some, if◌then◌else◌, List, [], ◌∷◌, length, take, drop, Option, Some, None, option_map, Result, Ok, Err}
use Rattle.std.specs.Str.{bytes_eq}
use Rattle.mq_packet.specs.declared.fault.PacketFault.{PacketFault}
use Rattle.mq_packet.specs.declared.fault.PacketFault.TheVariants as faults
use Rattle.mq_packet.specs.declared.header.Header.{Header}
use Rattle.mq_packet.specs.declared.header.Header.TheVariants as headers
use Rattle.mq_packet.specs.declared.marks.Marks.{Marks}
use Rattle.mq_packet.specs.declared.packet.Delivery.{Delivery}
use Rattle.mq_packet.specs.declared.packet.Delivery.TheVariants as deliveries
use Rattle.mq_packet.specs.declared.packet.Login.{Login}
use Rattle.mq_packet.specs.declared.packet.Packet.{Packet}
use Rattle.mq_packet.specs.declared.packet.Packet.TheVariants as packets
use Rattle.mq_packet.specs.declared.packet.Qos.{Qos}
use Rattle.mq_packet.specs.declared.packet.Qos.TheVariants as levels
use Rattle.mq_packet.specs.declared.packet.Will.{Will}
use Rattle.mq_packet.specs.Bodies.{bit, protocol, qos_number}
use Rattle.mq_packet.specs.Text.{is_filter_text, is_text, is_topic_text}

-- what a reader may answer, if this is what there is to read; only if there is something can it
-- need memory
abbrev pub ReadsPacket : {A : Type 0} → Option A → Result A PacketFault → Type 0
ReadsPacket there (Ok x) = there ≡ Some x
ReadsPacket there (Err faults.Memory) = there ≢ None
ReadsPacket there (Err faults.Body) = there ≡ None
ReadsPacket there (Err fault) = ⊥

-- the number in two octets
abbrev pub number_of_two : ℕ → ℕ → ℕ
number_of_two high low = high * 256 + low

-- a value that may be missing, and what is read on with it
infixl 10 ◌>>=◌
abbrev pub ◌>>=◌ : {A B : Type 0} → Option A → (A → Option B) → Option B
None >>= f = None
(Some x) >>= f = f x

-- a string or data after its length, and what follows
abbrev pub read_data : List ℕ → Option (List ℕ × List ℕ)
read_data (high ∷ low ∷ rest) =
    if nat_le (number_of_two high low) (length rest)
    then Some (take (number_of_two high low) rest, drop (number_of_two high low) rest)
    else None
read_data octets = None

-- a string or data if the flags say that one is there, else nothing
abbrev pub read_data_if : Bool → List ℕ → Option (List ℕ × List ℕ)
read_data_if true octets = read_data octets
read_data_if false octets = Some ([], octets)

-- a packet id, and what follows
abbrev pub read_id : List ℕ → Option (ℕ × List ℕ)
read_id (high ∷ low ∷ rest) =
    if number_of_two high low == 0 then None else Some (number_of_two high low, rest)
read_id octets = None

-- a packet id and nothing else
abbrev pub only_id : ℕ × List ℕ → Option ℕ
only_id x = if length x.1 == 0 then Some x.0 else None

abbrev pub read_only_id : List ℕ → Option ℕ
read_only_id octets = read_id octets >>= only_id

-- the packet, if there is no body
abbrev pub read_no_body : List ℕ → Packet → Option Packet
read_no_body [] p = Some p
read_no_body body p = None

-- a quality of service by its number
abbrev pub qos_of_number : ℕ → Option Qos
qos_of_number n = if n == 0 then Some levels.Zero else (if n == 1 then Some levels.One else None)

-- a return code of SUBACK
abbrev pub grant_at : ℕ → Option (Option Qos)
grant_at n = if n == 0x80 then Some None else (qos_of_number n >>= λ qos. Some (Some qos))

-- one octet and nothing else
abbrev pub read_one_octet : List ℕ → Option ℕ
read_one_octet (octet ∷ []) = Some octet
read_one_octet octets = None

-- CONNACK: whether there is a session, return code
abbrev pub read_conn_ack : List ℕ → Option Packet
read_conn_ack (flags ∷ code ∷ []) =
    if (flags == 0) && nat_le code 5 then Some (packets.ConnAck false code)
    else (if (flags == 1) && (code == 0) then Some (packets.ConnAck true code) else None)
read_conn_ack body = None

-- a publication with this topic
abbrev pub publish_packet : Delivery → Bool → List ℕ → List ℕ → Option Packet
publish_packet delivery retain topic message =
    if is_topic_text topic then Some (packets.Publish delivery retain topic message) else None

-- PUBLISH at quality of service 0: topic, message
abbrev pub read_once : Bool → List ℕ → Option Packet
read_once retain body = read_data body >>= λ x. publish_packet deliveries.Once retain x.0 x.1

-- PUBLISH at quality of service 1: topic, packet id, message
abbrev pub read_acknowledged : Bool → Bool → List ℕ → Option Packet
read_acknowledged dup retain body = do
  x ← read_data body
  y ← read_id x.1
  publish_packet (deliveries.Acknowledged y.0 dup) retain x.0 y.1

-- a filter, and what follows
abbrev pub filter_first : List ℕ × List ℕ → Option (List ℕ × List ℕ)
filter_first x = if is_filter_text x.0 then Some x else None

-- SUBSCRIBE: packet id, one filter, the quality of service that is asked for
abbrev pub read_subscribe : List ℕ → Option Packet
read_subscribe body = do
  x ← read_id body
  y ← read_data x.1
  z ← filter_first y
  octet ← read_one_octet z.1
  qos ← qos_of_number octet
  Some (packets.Subscribe x.0 z.0 qos)

-- SUBACK: packet id, one return code
abbrev pub read_sub_ack_packet : List ℕ → Option Packet
read_sub_ack_packet body = do
  x ← read_id body
  octet ← read_one_octet x.1
  granted ← grant_at octet
  Some (packets.SubAck x.0 granted)

-- UNSUBSCRIBE: packet id, one filter
abbrev pub read_unsubscribe : List ℕ → Option Packet
read_unsubscribe body = do
  x ← read_id body
  y ← read_data x.1
  z ← filter_first y
  if length z.1 == 0 then Some (packets.Unsubscribe x.0 z.0) else None

-- the bits of the flags of CONNECT that are of the will
abbrev pub will_mark_bits : Option (Qos × Bool) → ℕ
will_mark_bits None = 0
will_mark_bits (Some will) = 4 + 8 * qos_number will.0 + 32 * bit will.1

-- and of the login
abbrev pub login_mark_bits : Option Bool → ℕ
login_mark_bits None = 0
login_mark_bits (Some password) = 128 + 64 * bit password

-- the octet of flags
abbrev pub marks_octet : Marks → ℕ
marks_octet m = 2 * bit m.clean + will_mark_bits m.will + login_mark_bits m.login

-- the flags of the will that an octet has, if it has good ones
abbrev pub will_marks_at : ℕ → Option (Qos × Bool)
will_marks_at octet =
    if octet / 4 % 2 == 1
    then Some (if octet / 8 % 2 == 1 then levels.One else levels.Zero, octet / 32 % 2 == 1)
    else None

-- and those of the login
abbrev pub login_marks_at : ℕ → Option Bool
login_marks_at octet = if octet / 128 % 2 == 1 then Some (octet / 64 % 2 == 1) else None

-- the flags that an octet has, if it has good ones
abbrev pub marks_at : ℕ → Marks
marks_at octet =
    record {
      clean = octet / 2 % 2 == 1;
      will = will_marks_at octet;
      login = login_marks_at octet;
    }

-- the flags of CONNECT in an octet: they write it again
abbrev pub read_marks : ℕ → Option Marks
read_marks octet = if marks_octet (marks_at octet) == octet then Some (marks_at octet) else None

-- whether a password follows the user
abbrev pub has_password : Option Bool → Bool
has_password None = false
has_password (Some password) = password

-- the strings of CONNECT: client, topic and message of the will, user, password
abbrev pub ConnectStrings : Type 0
ConnectStrings = List ℕ × List ℕ × List ℕ × List ℕ × List ℕ

-- the strings that the flags say are there, up to the end
abbrev pub read_parts : Marks → List ℕ → Option ConnectStrings
read_parts m payload = do
  client ← read_data payload
  topic ← read_data_if (is_some m.will) client.1
  message ← read_data_if (is_some m.will) topic.1
  user ← read_data_if (is_some m.login) message.1
  password ← read_data_if (has_password m.login) user.1
  let parts : ConnectStrings = (client.0, topic.0, message.0, user.0, password.0)
  if length password.1 == 0 then Some parts else None

-- whether those that have to be text or a topic are
abbrev pub are_good : Marks → ConnectStrings → Bool
are_good m p =
    is_text p.0 && (not (is_some m.will) || is_topic_text p.1)
    && (not (is_some m.login) || is_text p.3)

-- the will of these flags and strings
abbrev pub will_made : Option (Qos × Bool) → List ℕ → List ℕ → Option Will
will_made None topic message = None
will_made (Some will) topic message =
    Some (record { topic = topic; message = message; qos = will.0; retain = will.1 })

-- and the login
abbrev pub login_made : Option Bool → List ℕ → List ℕ → Option Login
login_made None user password = None
login_made (Some has) user password =
    Some (record { user = user; password = if has then Some password else None })

-- CONNECT of these flags and strings
abbrev pub connection : Marks → ℕ → ConnectStrings → Packet
connection m keep_alive p =
    packets.Connect m.clean keep_alive p.0 (will_made m.will p.1 p.2) (login_made m.login p.3 p.4)

-- CONNECT after its flags and its time
abbrev pub read_connection : Marks → ℕ → List ℕ → Option Packet
read_connection m keep_alive payload = do
  p ← read_parts m payload
  if are_good m p then Some (connection m keep_alive p) else None

-- what follows the name and the level of the protocol
abbrev pub past_protocol : List ℕ → Option (List ℕ)
past_protocol body =
    if nat_lt (length body) 7 then None
    else (if bytes_eq (take 7 body) protocol then Some (drop 7 body) else None)

-- CONNECT after the protocol: flags, time, strings
abbrev pub read_marked : List ℕ → Option Packet
read_marked (bits ∷ high ∷ low ∷ payload) =
    read_marks bits >>= λ m. read_connection m (number_of_two high low) payload
read_marked rest = None

-- CONNECT
abbrev pub read_connect_packet : List ℕ → Option Packet
read_connect_packet body = past_protocol body >>= read_marked

-- the packet of this first octet with this body
abbrev pub packet_of : Header → List ℕ → Option Packet
packet_of headers.Connect body = read_connect_packet body
packet_of headers.ConnAck body = read_conn_ack body
packet_of (headers.PublishOnce retain) body = read_once retain body
packet_of (headers.PublishAcknowledged dup retain) body = read_acknowledged dup retain body
packet_of headers.PubAck body = option_map (λ id. packets.PubAck id) (read_only_id body)
packet_of headers.Subscribe body = read_subscribe body
packet_of headers.SubAck body = read_sub_ack_packet body
packet_of headers.Unsubscribe body = read_unsubscribe body
packet_of headers.UnsubAck body = option_map (λ id. packets.UnsubAck id) (read_only_id body)
packet_of headers.PingReq body = read_no_body body packets.PingReq
packet_of headers.PingResp body = read_no_body body packets.PingResp
packet_of headers.Disconnect body = read_no_body body packets.Disconnect
