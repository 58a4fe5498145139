-- One exchange, MQTT-SN 1.2 sections 6.2 to 6.14: what a frame means for what is awaited, and what
-- answers it.
use Rattle.std.specs.Prelude.{ℕ, ◌+◌, ◌/◌, ◌==◌, if◌then◌else◌, Option, Some, None}
use Rattle.sn_frame.specs.declared.flags.Qos.{Qos}
use Rattle.sn_frame.specs.declared.flags.Qos.TheVariants as levels
use Rattle.sn_frame.specs.declared.frame.Frame.{Frame}
use Rattle.sn_frame.specs.declared.frame.Frame.TheVariants as frames
use Rattle.sn_frame.specs.FlagBits.{qos_of}
use Rattle.sn_client.specs.declared.talk.Awaited.{Awaited}
use Rattle.sn_client.specs.declared.talk.Awaited.TheVariants as waits
use Rattle.sn_client.specs.declared.talk.Outcome.{Outcome}
use Rattle.sn_client.specs.declared.talk.Outcome.TheVariants as outcomes
use Rattle.sn_client.specs.declared.talk.Turn.{Turn}
use Rattle.sn_client.specs.declared.talk.Turn.TheVariants as turns

-- the acknowledgement of a publication with this quality of service
abbrev pub acknowledgement_at : Qos → ℕ → ℕ → Option Frame
acknowledgement_at levels.One topic id = Some (frames.PubAck topic id 0)
acknowledgement_at levels.Two topic id = Some (frames.PubRec id)
acknowledgement_at levels.Zero topic id = None
acknowledgement_at levels.MinusOne topic id = None

-- what a frame from the gateway is answered by, sections 6.5, 6.6 and 6.10
abbrev pub acknowledgement_of : Frame → Option Frame
acknowledgement_of (frames.Register topic id name) = Some (frames.RegAck topic id 0)
acknowledgement_of (frames.Publish flags topic id body) =
    acknowledgement_at (qos_of flags.bits) topic id
acknowledgement_of (frames.PubRel id) = Some (frames.PubComp id)
acknowledgement_of f = None

-- a turn that counts under one message id alone
abbrev pub turn_under : ℕ → ℕ → Turn → Turn
turn_under id came turn = if came == id then turn else turns.Stay

-- what a return code says, section 5.3.10
abbrev pub turn_by_code : ℕ → Turn
turn_by_code code = if code == 0 then turns.End outcomes.Accepted else turns.End outcomes.Refused

-- what a return code means if only a refusal ends the exchange
abbrev pub turn_by_refusal : ℕ → Turn
turn_by_refusal code = if code == 0 then turns.Stay else turns.End outcomes.Refused

-- what a REGACK means: the publication by this id, or the end
abbrev pub turn_by_reg_ack : ℕ → ℕ → Turn
turn_by_reg_ack topic code = if code == 0 then turns.Publish topic else turns.End outcomes.Refused

-- what a frame means for what is awaited; a DISCONNECT that answers none says that there is no
-- connection
abbrev pub turn_of : Awaited → Frame → Turn
turn_of waits.Gateway (frames.GwInfo gateway address) = turns.End outcomes.Accepted
turn_of waits.Connection (frames.ConnAck code) = turn_by_code code
turn_of (waits.Registration id) (frames.RegAck topic came code) =
    turn_under id came (turn_by_reg_ack topic code)
turn_of (waits.Subscription id) (frames.SubAck flags topic came code) =
    turn_under id came (turn_by_code code)
turn_of (waits.Withdrawal id) (frames.UnsubAck came) =
    turn_under id came (turns.End outcomes.Accepted)
turn_of (waits.Publication id) (frames.PubAck topic came code) =
    turn_under id came (turn_by_code code)
turn_of (waits.Receipt id) (frames.PubAck topic came code) =
    turn_under id came (turn_by_refusal code)
turn_of (waits.Refusal id) (frames.PubAck topic came code) =
    turn_under id came (turn_by_refusal code)
turn_of (waits.Receipt id) (frames.PubRec came) = turn_under id came (turns.Release id)
turn_of (waits.Completion id) (frames.PubComp came) =
    turn_under id came (turns.End outcomes.Accepted)
turn_of waits.Waking frames.PingResp = turns.End outcomes.Accepted
turn_of waits.Farewell (frames.Disconnect duration) = turns.End outcomes.Accepted
turn_of awaited (frames.Disconnect duration) = turns.End outcomes.Refused
turn_of awaited f = turns.Stay

-- the message id of a frame; 0 if it has none
abbrev pub msg_id_of : Frame → ℕ
msg_id_of (frames.Register topic id name) = id
msg_id_of (frames.RegAck topic id code) = id
msg_id_of (frames.Publish flags topic id body) = id
msg_id_of (frames.PubAck topic id code) = id
msg_id_of (frames.PubComp id) = id
msg_id_of (frames.PubRec id) = id
msg_id_of (frames.PubRel id) = id
msg_id_of (frames.Subscribe flags id topic) = id
msg_id_of (frames.SubAck flags topic id code) = id
msg_id_of (frames.Unsubscribe flags id topic) = id
msg_id_of (frames.UnsubAck id) = id
msg_id_of f = 0

-- the message id of what is awaited; 0 if it has none
abbrev pub id_awaited : Awaited → ℕ
id_awaited (waits.Registration id) = id
id_awaited (waits.Subscription id) = id
id_awaited (waits.Withdrawal id) = id
id_awaited (waits.Publication id) = id
id_awaited (waits.Receipt id) = id
id_awaited (waits.Completion id) = id
id_awaited (waits.Refusal id) = id
id_awaited awaited = 0

-- A frame that moves the exchange on, or ends it well, has the message id of what is awaited.
abbrev pub OnProgress : Turn → Type 0 → Type 0
OnProgress (turns.Publish topic) P = P
OnProgress (turns.Release id) P = P
OnProgress (turns.End outcomes.Accepted) P = P
OnProgress turn P = Unit {0}

-- A repeated frame says that it was sent before, section 5.3.4.
abbrev pub repeated_bits : ℕ → ℕ
repeated_bits bits = if bits / 128 == 0 then bits + 128 else bits

-- a frame as it is sent again: a PUBLISH has DUP, others stay as they are
abbrev pub repeated : Frame → Frame
repeated (frames.Publish flags topic id body) =
    frames.Publish (record { bits = repeated_bits flags.bits }) topic id body
repeated f = f

-- what is awaited after a publication, sections 6.6 and 6.8
abbrev pub awaited_at : Qos → ℕ → Awaited
awaited_at levels.One id = waits.Publication id
awaited_at levels.Two id = waits.Receipt id
awaited_at levels.Zero id = waits.Refusal id
awaited_at levels.MinusOne id = waits.Refusal id

-- how a publication has ended when it is sent: if nothing answers it, it counts as accepted
abbrev pub outcome_at : Qos → Option Outcome
outcome_at levels.One = None
outcome_at levels.Two = None
outcome_at levels.Zero = Some outcomes.Accepted
outcome_at levels.MinusOne = Some outcomes.Accepted

-- the status of the program
abbrev pub outcome_status : Outcome → ℕ
outcome_status outcomes.Accepted = 0
outcome_status outcomes.Refused = 1
outcome_status outcomes.Unanswered = 2
