-- The body of each message, MQTT-SN 1.2 section 5.4: its octets, and the sizes that its parts may
-- have.
use Rattle.std.specs.Prelude.{◌≡◌, ℕ, ◌^◌, ◌<◌, ◌≤◌, Bool, true, false, List, [], ◌∷◌, ◌++◌, length, Option, Some, None, IfSome}
use Rattle.byteorder.specs.Endian.{big_bytes}
use Rattle.sn_frame.specs.declared.flags.TopicIdType.{TopicIdType}
use Rattle.sn_frame.specs.declared.flags.TopicIdType.TheVariants as kinds
use Rattle.sn_frame.specs.declared.frame.Frame.{Frame}
use Rattle.sn_frame.specs.declared.frame.Frame.TheVariants as frames
use Rattle.sn_frame.specs.declared.frame.Will.{Will}
use Rattle.octets.specs.declared.client_id.TheConstants.{MAX_CLIENT_ID}
use Rattle.sn_frame.specs.declared.msg_type.MsgType.{MsgType}
use Rattle.sn_frame.specs.declared.msg_type.MsgType.TheVariants as types
use Rattle.sn_frame.specs.FlagBits.{kind_of}

-- which message a frame is (5.2.2)
abbrev pub type_of : Frame → MsgType
type_of (frames.Advertise gateway duration) = types.Advertise
type_of (frames.SearchGw radius) = types.SearchGw
type_of (frames.GwInfo gateway address) = types.GwInfo
type_of (frames.Connect flags protocol duration client) = types.Connect
type_of (frames.ConnAck code) = types.ConnAck
type_of frames.WillTopicReq = types.WillTopicReq
type_of (frames.WillTopic will) = types.WillTopic
type_of frames.WillMsgReq = types.WillMsgReq
type_of (frames.WillMsg message) = types.WillMsg
type_of (frames.Register topic_id msg_id name) = types.Register
type_of (frames.RegAck topic_id msg_id code) = types.RegAck
type_of (frames.Publish flags topic msg_id body) = types.Publish
type_of (frames.PubAck topic_id msg_id code) = types.PubAck
type_of (frames.PubComp msg_id) = types.PubComp
type_of (frames.PubRec msg_id) = types.PubRec
type_of (frames.PubRel msg_id) = types.PubRel
type_of (frames.Subscribe flags msg_id topic) = types.Subscribe
type_of (frames.SubAck flags topic_id msg_id code) = types.SubAck
type_of (frames.Unsubscribe flags msg_id topic) = types.Unsubscribe
type_of (frames.UnsubAck msg_id) = types.UnsubAck
type_of (frames.PingReq client) = types.PingReq
type_of frames.PingResp = types.PingResp
type_of (frames.Disconnect duration) = types.Disconnect
type_of (frames.WillTopicUpd will) = types.WillTopicUpd
type_of (frames.WillTopicResp code) = types.WillTopicResp
type_of (frames.WillMsgUpd message) = types.WillMsgUpd
type_of (frames.WillMsgResp code) = types.WillMsgResp

-- a will's flags and topic, or nothing
abbrev pub will_octets : Option Will → List ℕ
will_octets None = []
will_octets (Some will) = will.flags.bits ∷ will.topic

-- a duration, or nothing
abbrev pub duration_octets : Option ℕ → List ℕ
duration_octets None = []
duration_octets (Some duration) = big_bytes 2 duration

-- the octets of a frame after its type (5.4)
abbrev pub body_of : Frame → List ℕ
body_of (frames.Advertise gateway duration) = gateway ∷ big_bytes 2 duration
body_of (frames.SearchGw radius) = radius ∷ []
body_of (frames.GwInfo gateway address) = gateway ∷ address
body_of (frames.Connect flags protocol duration client) =
    (flags.bits ∷ protocol ∷ big_bytes 2 duration) ++ client
body_of (frames.ConnAck code) = code ∷ []
body_of frames.WillTopicReq = []
body_of (frames.WillTopic will) = will_octets will
body_of frames.WillMsgReq = []
body_of (frames.WillMsg message) = message
body_of (frames.Register topic_id msg_id name) = big_bytes 2 topic_id ++ big_bytes 2 msg_id ++ name
body_of (frames.RegAck topic_id msg_id code) =
    big_bytes 2 topic_id ++ big_bytes 2 msg_id ++ (code ∷ [])
body_of (frames.Publish flags topic msg_id body) =
    (flags.bits ∷ big_bytes 2 topic) ++ big_bytes 2 msg_id ++ body
body_of (frames.PubAck topic_id msg_id code) =
    big_bytes 2 topic_id ++ big_bytes 2 msg_id ++ (code ∷ [])
body_of (frames.PubComp msg_id) = big_bytes 2 msg_id
body_of (frames.PubRec msg_id) = big_bytes 2 msg_id
body_of (frames.PubRel msg_id) = big_bytes 2 msg_id
body_of (frames.Subscribe flags msg_id topic) = (flags.bits ∷ big_bytes 2 msg_id) ++ topic
body_of (frames.SubAck flags topic_id msg_id code) =
    (flags.bits ∷ big_bytes 2 topic_id) ++ big_bytes 2 msg_id ++ (code ∷ [])
body_of (frames.Unsubscribe flags msg_id topic) = (flags.bits ∷ big_bytes 2 msg_id) ++ topic
body_of (frames.UnsubAck msg_id) = big_bytes 2 msg_id
body_of (frames.PingReq client) = client
body_of frames.PingResp = []
body_of (frames.Disconnect duration) = duration_octets duration
body_of (frames.WillTopicUpd will) = will_octets will
body_of (frames.WillTopicResp code) = code ∷ []
body_of (frames.WillMsgUpd message) = message
body_of (frames.WillMsgResp code) = code ∷ []

-- whether a frame has no octet string: no address, client, name, topic field, body, message or
-- will. An empty one counts, and so does an id in the topic field of SUBSCRIBE or UNSUBSCRIBE. A
-- light frame is read without memory.
abbrev pub is_light : Frame → Bool
is_light (frames.GwInfo gateway address) = false
is_light (frames.Connect flags protocol duration client) = false
is_light (frames.WillTopic (Some will)) = false
is_light (frames.WillMsg message) = false
is_light (frames.Register topic_id msg_id name) = false
is_light (frames.Publish flags topic msg_id body) = false
is_light (frames.Subscribe flags msg_id topic) = false
is_light (frames.Unsubscribe flags msg_id topic) = false
is_light (frames.PingReq client) = false
is_light (frames.WillTopicUpd (Some will)) = false
is_light (frames.WillMsgUpd message) = false
is_light f = true

-- a topic field by its type: a predefined id and a short name have two octets, a filter has any
-- number
abbrev pub IsTopicField : TopicIdType → List ℕ → Type 0
IsTopicField kinds.Normal topic = Unit {0}
IsTopicField kinds.Predefined topic = length topic ≡ 2
IsTopicField kinds.Short topic = length topic ≡ 2
IsTopicField kinds.Reserved topic = Unit {0}

-- Its parts have sizes that the message allows. A client's id has 1 to 23 octets, in PINGREQ at
-- most 23. The topic field of SUBSCRIBE and UNSUBSCRIBE has two octets for a predefined id or a
-- short name.
abbrev pub IsMessage : Frame → Type 0
IsMessage (frames.Connect flags protocol duration client) =
    (1 ≤ length client) × (length client ≤ MAX_CLIENT_ID)
IsMessage (frames.Subscribe flags msg_id topic) = IsTopicField (kind_of flags.bits) topic
IsMessage (frames.Unsubscribe flags msg_id topic) = IsTopicField (kind_of flags.bits) topic
IsMessage (frames.PingReq client) = length client ≤ MAX_CLIENT_ID
IsMessage f = Unit {0}

-- a number of two octets
abbrev pub FitsTwoOctets : ℕ → Type 0
FitsTwoOctets n = n < 2 ^ 16

-- The numbers of two octets in a frame have 16 bits. In a clause a number of a frame ranges over
-- all numbers.
abbrev pub IsValue : Frame → Type 0
IsValue (frames.Advertise gateway duration) = FitsTwoOctets duration
IsValue (frames.Connect flags protocol duration client) = FitsTwoOctets duration
IsValue (frames.Register topic_id msg_id name) = FitsTwoOctets topic_id × FitsTwoOctets msg_id
IsValue (frames.RegAck topic_id msg_id code) = FitsTwoOctets topic_id × FitsTwoOctets msg_id
IsValue (frames.Publish flags topic msg_id body) = FitsTwoOctets topic × FitsTwoOctets msg_id
IsValue (frames.PubAck topic_id msg_id code) = FitsTwoOctets topic_id × FitsTwoOctets msg_id
IsValue (frames.PubComp msg_id) = FitsTwoOctets msg_id
IsValue (frames.PubRec msg_id) = FitsTwoOctets msg_id
IsValue (frames.PubRel msg_id) = FitsTwoOctets msg_id
IsValue (frames.Subscribe flags msg_id topic) = FitsTwoOctets msg_id
IsValue (frames.SubAck flags topic_id msg_id code) = FitsTwoOctets topic_id × FitsTwoOctets msg_id
IsValue (frames.Unsubscribe flags msg_id topic) = FitsTwoOctets msg_id
IsValue (frames.UnsubAck msg_id) = FitsTwoOctets msg_id
IsValue (frames.Disconnect duration) = IfSome duration FitsTwoOctets
IsValue f = Unit {0}
