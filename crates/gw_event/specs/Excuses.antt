-- What a client gets if its frame came to nothing because the disk failed: congestion, return code
-- 1 (section 5.3.10).
use Rattle.std.specs.Prelude.{◌≡◌, ℕ, Bool, false, if◌then◌else◌, bit_and, bytes_eq, List, [], ◌∷◌, Option, Some, None}
use Rattle.std.specs.Option.{option_map, option_to_list}
use Rattle.sn_frame.specs.declared.flags.Qos.{Qos}
use Rattle.sn_frame.specs.declared.flags.Qos.TheVariants as levels
use Rattle.sn_frame.specs.declared.frame.Frame.{Frame}
use Rattle.sn_frame.specs.declared.frame.Frame.TheVariants as frames
use Rattle.sn_frame.specs.FlagBits.{qos_of}
use Rattle.sn_frame.specs.Bodies.{IsValue}
use Rattle.sn_frame.specs.Grammar.{Spells, spelling}
use Rattle.sn_local.specs.declared.config.Addr.{Addr}
use Rattle.sn_local.specs.declared.config.Send.{Send}
use Rattle.gw_event.specs.Occasions.{Occasion, Datagram, Clock}

-- the first datagram that would have gone out accepts a connection
abbrev pub accepts : List Send → Bool
accepts [] = false
accepts (send ∷ rest) = bytes_eq send.bytes (spelling (frames.ConnAck 0))

-- the refusal of a publication, if it would be answered
abbrev pub unpublished : Qos → ℕ → ℕ → Option Frame
unpublished levels.One topic msg_id = Some (frames.PubAck topic msg_id 1)
unpublished levels.Two topic msg_id = Some (frames.PubAck topic msg_id 1)
unpublished levels.Zero topic msg_id = None
unpublished levels.MinusOne topic msg_id = None

-- The refusal of a frame, with code 1. A registration, a subscription, a publication at quality of
-- service 1 or 2 and an update of the will have one. So has a frame that would have had its
-- connection accepted. REGACK and SUBACK have topic id 0; SUBACK has the quality of service asked
-- for.
abbrev pub excuse_of : Frame → List Send → Option Frame
excuse_of (frames.Register topic_id msg_id name) sends = Some (frames.RegAck 0 msg_id 1)
excuse_of (frames.Subscribe flags msg_id topic) sends =
    Some (frames.SubAck (record { bits = bit_and flags.bits 96 }) 0 msg_id 1)
excuse_of (frames.Publish flags topic msg_id body) sends =
    unpublished (qos_of flags.bits) topic msg_id
excuse_of (frames.WillTopicUpd will) sends = Some (frames.WillTopicResp 1)
excuse_of (frames.WillMsgUpd message) sends = Some (frames.WillMsgResp 1)
excuse_of frame sends = if accepts sends then Some (frames.ConnAck 1) else None

-- the datagram that carries a frame to an address
abbrev pub datagram_to : Addr → Frame → Send
datagram_to address frame = record { to = address; bytes = spelling frame }

-- what is sent to the address instead of these datagrams: the frame's refusal, if it has one
abbrev pub excuses : Addr → Frame → List Send → List Send
excuses from frame sends = option_to_list (option_map (datagram_to from) (excuse_of frame sends))

-- what is sent instead for an occasion: that for a datagram's frame, and nothing for a tick
abbrev pub IsExcuse : Occasion → List Send → List Send → Type 0
IsExcuse (Datagram from bytes) sends excuse =
    (frame : Frame) × IsValue frame × Spells bytes frame × (excuse ≡ excuses from frame sends)
IsExcuse Clock sends excuse = excuse ≡ []
