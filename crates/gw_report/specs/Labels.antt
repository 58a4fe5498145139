-- The words of labels.
use Rattle.std.specs.Prelude.{ℕ, List, codes}
use Rattle.sn_frame.specs.declared.msg_type.MsgType.{MsgType}
use Rattle.sn_frame.specs.declared.msg_type.MsgType.TheVariants as frames
use Rattle.sn_session.specs.declared.presence.Presence.{Presence}
use Rattle.sn_session.specs.declared.presence.Presence.TheVariants as presences
use Rattle.gw_report.specs.declared.label.CallKind.{CallKind}
use Rattle.gw_report.specs.declared.label.CallKind.TheVariants as kinds
use Rattle.gw_report.specs.declared.label.CallAnswer.{CallAnswer}
use Rattle.gw_report.specs.declared.label.CallAnswer.TheVariants as answers
use Rattle.gw_report.specs.declared.label.DeltaFault.{DeltaFault}
use Rattle.gw_report.specs.declared.label.DeltaFault.TheVariants as faults

-- how the type of a frame is written
unfoldable pub frame_word : MsgType → List ℕ
frame_word frames.Advertise = codes "advertise"
frame_word frames.SearchGw = codes "searchgw"
frame_word frames.GwInfo = codes "gwinfo"
frame_word frames.Connect = codes "connect"
frame_word frames.ConnAck = codes "connack"
frame_word frames.WillTopicReq = codes "willtopicreq"
frame_word frames.WillTopic = codes "willtopic"
frame_word frames.WillMsgReq = codes "willmsgreq"
frame_word frames.WillMsg = codes "willmsg"
frame_word frames.Register = codes "register"
frame_word frames.RegAck = codes "regack"
frame_word frames.Publish = codes "publish"
frame_word frames.PubAck = codes "puback"
frame_word frames.PubComp = codes "pubcomp"
frame_word frames.PubRec = codes "pubrec"
frame_word frames.PubRel = codes "pubrel"
frame_word frames.Subscribe = codes "subscribe"
frame_word frames.SubAck = codes "suback"
frame_word frames.Unsubscribe = codes "unsubscribe"
frame_word frames.UnsubAck = codes "unsuback"
frame_word frames.PingReq = codes "pingreq"
frame_word frames.PingResp = codes "pingresp"
frame_word frames.Disconnect = codes "disconnect"
frame_word frames.WillTopicUpd = codes "willtopicupd"
frame_word frames.WillTopicResp = codes "willtopicresp"
frame_word frames.WillMsgUpd = codes "willmsgupd"
frame_word frames.WillMsgResp = codes "willmsgresp"

-- how a presence is written
abbrev pub presence_word : Presence → List ℕ
presence_word presences.Active = codes "active"
presence_word presences.Asleep = codes "asleep"
presence_word presences.Awake = codes "awake"
presence_word presences.Disconnected = codes "disconnected"
presence_word presences.Lost = codes "lost"

-- how the kind of a call is written
abbrev pub call_word : CallKind → List ℕ
call_word kinds.Frame = codes "frame"
call_word kinds.Take = codes "take"
call_word kinds.Tick = codes "tick"
call_word kinds.View = codes "view"
call_word kinds.Digest = codes "digest"
call_word kinds.Answer = codes "answer"
call_word kinds.Compact = codes "compact"
call_word kinds.Reopen = codes "reopen"

-- how the answer of a call is written
abbrev pub answer_word : CallAnswer → List ℕ
answer_word answers.Done = codes "ok"
answer_word answers.Frame = codes "N1"
answer_word answers.Halted = codes "N2"
answer_word answers.Disk = codes "N3"
answer_word answers.Conflict = codes "N4"
answer_word answers.Full = codes "N5"
answer_word answers.Exhausted = codes "N6"
answer_word answers.Memory = codes "N7"
answer_word answers.Journal = codes "N8"

-- how the refusal of a delta is written
abbrev pub fault_word : DeltaFault → List ℕ
fault_word faults.Conflict = codes "N4"
fault_word faults.Full = codes "N5"
fault_word faults.Other = codes "other"

-- the number of a kind of calls, which no other kind has
abbrev pub call_number : CallKind → ℕ
call_number kinds.Frame = 1
call_number kinds.Take = 2
call_number kinds.Tick = 3
call_number kinds.View = 4
call_number kinds.Digest = 5
call_number kinds.Answer = 6
call_number kinds.Compact = 7
call_number kinds.Reopen = 8

-- the number by which programs print a refusal; 0 for a call that was done
abbrev pub answer_number : CallAnswer → ℕ
answer_number answers.Done = 0
answer_number answers.Frame = 1
answer_number answers.Halted = 2
answer_number answers.Disk = 3
answer_number answers.Conflict = 4
answer_number answers.Full = 5
answer_number answers.Exhausted = 6
answer_number answers.Memory = 7
answer_number answers.Journal = 8
