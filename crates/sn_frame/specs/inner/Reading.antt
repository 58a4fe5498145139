-- What the readers of `decode` make of a body. They alone cite this file: `decode` is stated by the
-- grammar.
use Rattle.std.specs.Prelude.{◌≡◌, ◌≢◌, ℕ, ◌+◌, ◌*◌, ◌==◌, Bool, true, false, nat_le, ◌&&◌, if◌then◌else◌, List, [], ◌∷◌, length, Option, Some, None, option_map, Result, Ok, Err, IfErr}
use Rattle.sn_frame.specs.declared.fault.FrameFault.{FrameFault}
use Rattle.sn_frame.specs.declared.fault.FrameFault.TheVariants as faults
use Rattle.sn_frame.specs.declared.flags.Flags.{Flags}
use Rattle.sn_frame.specs.declared.flags.TopicIdType.{TopicIdType}
use Rattle.sn_frame.specs.declared.flags.TopicIdType.TheVariants as kinds
use Rattle.sn_frame.specs.declared.frame.Frame.{Frame}
use Rattle.sn_frame.specs.declared.frame.Frame.TheVariants as frames
use Rattle.sn_frame.specs.declared.frame.Will.{Will}
use Rattle.octets.specs.declared.client_id.TheConstants.{MAX_CLIENT_ID}
use Rattle.sn_frame.specs.declared.msg_type.MsgType.{MsgType}
use Rattle.sn_frame.specs.declared.msg_type.MsgType.TheVariants as types
use Rattle.sn_frame.specs.FlagBits.{kind_of}

-- what a reader may answer, if this is what there is to read; only if there is something can it
-- need memory
abbrev pub ReadsFrame : {A : Type 0} → Option A → Result A FrameFault → Type 0
ReadsFrame there (Ok x) = there ≡ Some x
ReadsFrame there (Err faults.Memory) = there ≢ None
ReadsFrame there (Err faults.Body) = there ≡ None
ReadsFrame there (Err fault) = ⊥

-- the answer is not that memory ran out
abbrev pub WantsNone : {A : Type 0} → Result A FrameFault → Type 0
WantsNone answer = IfErr answer (λ e. e ≢ faults.Memory)

-- memory is needed only if octets are copied
abbrev pub WantsFor : {A : Type 0} → Bool → Result A FrameFault → Type 0
WantsFor true answer = Unit {0}
WantsFor false answer = WantsNone answer

-- whether there are octets
abbrev pub has_octets : List ℕ → Bool
has_octets [] = false
has_octets (octet ∷ body) = true

-- whether octets of a body of this type are copied
abbrev pub copies : MsgType → List ℕ → Bool
copies types.GwInfo body = true
copies types.Connect body = true
copies types.WillTopic body = has_octets body
copies types.WillMsg body = true
copies types.Register body = true
copies types.Publish body = true
copies types.Subscribe body = true
copies types.Unsubscribe body = true
copies types.PingReq body = true
copies types.WillTopicUpd body = has_octets body
copies types.WillMsgUpd body = true
copies msg_type body = false

-- the number in two octets
abbrev pub number : ℕ → ℕ → ℕ
number high low = high * 256 + low

-- the frame, if there is no body
abbrev pub read_bare : List ℕ → Frame → Option Frame
read_bare [] f = Some f
read_bare body f = None

-- the octet of a body that is one octet
abbrev pub read_octet : List ℕ → Option ℕ
read_octet (octet ∷ []) = Some octet
read_octet body = None

-- one number of two octets
abbrev pub read_number : List ℕ → Option ℕ
read_number (high ∷ low ∷ []) = Some (number high low)
read_number body = None

-- a topic id, a message id and a return code
abbrev pub read_ids : List ℕ → Option (ℕ × ℕ × ℕ)
read_ids (t1 ∷ t0 ∷ m1 ∷ m0 ∷ code ∷ []) = Some (number t1 t0, number m1 m0, code)
read_ids body = None

-- whether a topic field has the size that its type asks for
abbrev pub fits_topic : TopicIdType → List ℕ → Bool
fits_topic kinds.Normal topic = true
fits_topic kinds.Predefined topic = length topic == 2
fits_topic kinds.Short topic = length topic == 2
fits_topic kinds.Reserved topic = true

-- flags, a message id and a topic
abbrev pub read_filter : List ℕ → Option (Flags × ℕ × List ℕ)
read_filter (bits ∷ high ∷ low ∷ topic) =
    if fits_topic (kind_of bits) topic then Some (record { bits = bits }, number high low, topic)
    else None
read_filter body = None

-- a will's flags and topic, or nothing
abbrev pub read_will : List ℕ → Option Will
read_will [] = None
read_will (bits ∷ topic) = Some (record { flags = record { bits = bits }; topic = topic })

-- ADVERTISE: gateway, duration
abbrev pub read_advertise : List ℕ → Option Frame
read_advertise (gateway ∷ high ∷ low ∷ []) = Some (frames.Advertise gateway (number high low))
read_advertise body = None

-- GWINFO: gateway, address
abbrev pub read_gw_info : List ℕ → Option Frame
read_gw_info (gateway ∷ address) = Some (frames.GwInfo gateway address)
read_gw_info body = None

-- CONNECT: flags, protocol, duration, client of 1 to 23 octets
abbrev pub read_connect : List ℕ → Option Frame
read_connect (bits ∷ protocol ∷ high ∷ low ∷ client) =
    if nat_le 1 (length client) && nat_le (length client) MAX_CLIENT_ID
    then Some (frames.Connect (record { bits = bits }) protocol (number high low) client)
    else None
read_connect body = None

-- REGISTER: topic id, message id, name
abbrev pub read_register : List ℕ → Option Frame
read_register (t1 ∷ t0 ∷ m1 ∷ m0 ∷ name) = Some (frames.Register (number t1 t0) (number m1 m0) name)
read_register body = None

-- PUBLISH: flags, topic, message id, body
abbrev pub read_publish : List ℕ → Option Frame
read_publish (bits ∷ t1 ∷ t0 ∷ m1 ∷ m0 ∷ message) =
    Some (frames.Publish (record { bits = bits }) (number t1 t0) (number m1 m0) message)
read_publish body = None

-- SUBACK: flags, topic id, message id, code
abbrev pub read_sub_ack : List ℕ → Option Frame
read_sub_ack (bits ∷ t1 ∷ t0 ∷ m1 ∷ m0 ∷ code ∷ []) =
    Some (frames.SubAck (record { bits = bits }) (number t1 t0) (number m1 m0) code)
read_sub_ack body = None

-- PINGREQ: client of at most 23 octets
abbrev pub read_ping_req : List ℕ → Option Frame
read_ping_req body = if nat_le (length body) MAX_CLIENT_ID then Some (frames.PingReq body) else None

-- DISCONNECT: nothing, or duration
abbrev pub read_disconnect : List ℕ → Option Frame
read_disconnect [] = Some (frames.Disconnect None)
read_disconnect (high ∷ low ∷ []) = Some (frames.Disconnect (Some (number high low)))
read_disconnect body = None

-- the message of this type with this body
abbrev pub frame_of : MsgType → List ℕ → Option Frame
frame_of types.Advertise body = read_advertise body
frame_of types.SearchGw body = option_map (λ radius. frames.SearchGw radius) (read_octet body)
frame_of types.GwInfo body = read_gw_info body
frame_of types.Connect body = read_connect body
frame_of types.ConnAck body = option_map (λ code. frames.ConnAck code) (read_octet body)
frame_of types.WillTopicReq body = read_bare body frames.WillTopicReq
frame_of types.WillTopic body = Some (frames.WillTopic (read_will body))
frame_of types.WillMsgReq body = read_bare body frames.WillMsgReq
frame_of types.WillMsg body = Some (frames.WillMsg body)
frame_of types.Register body = read_register body
frame_of types.RegAck body = option_map (λ x. frames.RegAck x.0 x.1 x.2) (read_ids body)
frame_of types.Publish body = read_publish body
frame_of types.PubAck body = option_map (λ x. frames.PubAck x.0 x.1 x.2) (read_ids body)
frame_of types.PubComp body = option_map (λ msg_id. frames.PubComp msg_id) (read_number body)
frame_of types.PubRec body = option_map (λ msg_id. frames.PubRec msg_id) (read_number body)
frame_of types.PubRel body = option_map (λ msg_id. frames.PubRel msg_id) (read_number body)
frame_of types.Subscribe body = option_map (λ x. frames.Subscribe x.0 x.1 x.2) (read_filter body)
frame_of types.SubAck body = read_sub_ack body
frame_of types.Unsubscribe body =
    option_map (λ x. frames.Unsubscribe x.0 x.1 x.2) (read_filter body)
frame_of types.UnsubAck body = option_map (λ msg_id. frames.UnsubAck msg_id) (read_number body)
frame_of types.PingReq body = read_ping_req body
frame_of types.PingResp body = read_bare body frames.PingResp
frame_of types.Disconnect body = read_disconnect body
frame_of types.WillTopicUpd body = Some (frames.WillTopicUpd (read_will body))
frame_of types.WillTopicResp body = option_map (λ code. frames.WillTopicResp code) (read_octet body)
frame_of types.WillMsgUpd body = Some (frames.WillMsgUpd body)
frame_of types.WillMsgResp body = option_map (λ code. frames.WillMsgResp code) (read_octet body)
