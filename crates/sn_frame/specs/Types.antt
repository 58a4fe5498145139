-- The octet of each message, MQTT-SN 1.2 section 5.2.2.
use Rattle.std.specs.Prelude.{ℕ}
use Rattle.sn_frame.specs.declared.msg_type.MsgType.{MsgType}
use Rattle.sn_frame.specs.declared.msg_type.MsgType.TheVariants as types

-- the octet of MsgType (5.2.2)
abbrev pub octet_of : MsgType → ℕ
octet_of types.Advertise = 0x00
octet_of types.SearchGw = 0x01
octet_of types.GwInfo = 0x02
octet_of types.Connect = 0x04
octet_of types.ConnAck = 0x05
octet_of types.WillTopicReq = 0x06
octet_of types.WillTopic = 0x07
octet_of types.WillMsgReq = 0x08
octet_of types.WillMsg = 0x09
octet_of types.Register = 0x0A
octet_of types.RegAck = 0x0B
octet_of types.Publish = 0x0C
octet_of types.PubAck = 0x0D
octet_of types.PubComp = 0x0E
octet_of types.PubRec = 0x0F
octet_of types.PubRel = 0x10
octet_of types.Subscribe = 0x12
octet_of types.SubAck = 0x13
octet_of types.Unsubscribe = 0x14
octet_of types.UnsubAck = 0x15
octet_of types.PingReq = 0x16
octet_of types.PingResp = 0x17
octet_of types.Disconnect = 0x18
octet_of types.WillTopicUpd = 0x1A
octet_of types.WillTopicResp = 0x1B
octet_of types.WillMsgUpd = 0x1C
octet_of types.WillMsgResp = 0x1D
