-- A walk in which every reading is good, every lane's, and came, and every command came: its reasons
-- are always there.
use Rattle.std.proofs.Common.{ℕ, List, [], ◌∷◌, Option, Some, None}
use Rattle.std.specs.List.{AllByRecursion}
use Rattle.br_core.specs.declared.item.Command.{Command}
use Rattle.br_core.specs.declared.item.Item.{Item}
use Rattle.br_core.specs.declared.settings.LaneSettings.{LaneSettings}
use Rattle.br_core.specs.declared.settings.Settings.{Settings}
use Rattle.br_core.specs.declared.state.Bridge.{Bridge}
use Rattle.br_core.specs.declared.state.Lane.{Lane}
use Rattle.br_core.specs.declared.state.Moment.{Moment}
use Rattle.br_core.specs.declared.state.Named.{Named}
use Rattle.br_core.specs.declared.state.Open.{Open}
use Rattle.mq_packet.specs.declared.packet.Packet.{Packet}
use Rattle.mq_packet.specs.declared.packet.Packet.TheVariants as packets
use Rattle.sn_frame.specs.declared.frame.Frame.{Frame}
use Rattle.sn_frame.specs.declared.frame.Frame.TheVariants as frames
use Rattle.br_core.specs.declared.event.Event.{Event}
use Rattle.br_core.specs.declared.event.Event.TheVariants as events
use Rattle.br_core.specs.Sides.{item_in_flight}
use Rattle.br_core.specs.Lanes.{lane_frame}
use Rattle.br_core.proofs.Walk.{FirstMay, FrameCame, FrameIn, FrameMay, FrameOwn, IfThere, ItemDone, LaneJust, LastJust, PacketDone, Reasons}

abbrev pub Yes : ℕ → Type 0
Yes n = Unit {0}

abbrev pub Its : ℕ → ℕ → ℕ → Type 0
Its place number msg_id = Unit {0}

abbrev pub Any : Item → Type 0
Any item = Unit {0}

abbrev pub Each : Command → Type 0
Each command = Unit {0}

pub each-any : (queue : List Command) → AllByRecursion Each queue
each-any [] = tt
each-any (first ∷ more) = (tt, each-any more)

pub last-any : (place : ℕ) (last : Option Open) → LastJust Yes Its place last
last-any place None = tt
last-any place (Some held) = (tt, λ e. tt)

pub lane-any : (place : ℕ) (x : Option Lane) → IfThere (LaneJust Yes Its place) x
lane-any place None = tt
lane-any place (Some x) = last-any place x.last

pub first-any : (queue : List Command) → FirstMay Yes queue
first-any [] = tt
first-any (first ∷ more) = λ wanted. tt

pub item-any : (item : Option Item) → ItemDone Yes item
item-any None = tt
item-any (Some item) = tt

pub frame-own : (place : ℕ) (frame : Frame) (b after : Bridge) → FrameOwn Its place frame b after
frame-own place (frames.Publish flags topic msg_id body) b after = λ took. tt
frame-own place frame b after = tt

pub frame-came : (own : LaneSettings) (ids : List Named) (place : ℕ) (frame : Frame) (b after : Bridge) → FrameCame Any own ids place frame b after
frame-came own ids place (frames.Publish flags topic msg_id body) b after = λ took name up level named there. tt
frame-came own ids place frame b after = tt

pub frame-any : (settings : Settings) (place : ℕ) (m : Moment) (frame : Frame) (b : Bridge) → FrameIn Its Any settings place m frame b
frame-any settings place m frame b = λ own x mine there.
    let after : Bridge = lane_frame settings place m frame own x b in
    (frame-own place frame b after, frame-came own x.ids place frame b after)

pub frame-may : (frame : Frame) (b : Bridge) → FrameMay Yes frame b
frame-may (frames.PubAck topic_id msg_id code) b = λ doing asked accepted. first-any b.down.queue
frame-may frame b = tt

pub packet-any : (settings : Settings) (packet : Packet) (b : Bridge) → PacketDone Yes Yes Each settings packet b
packet-any settings (packets.PubAck id) b = item-any (item_in_flight id b.flight)
packet-any settings (packets.Publish delivery retain topic body) b = (λ kept left wanted. tt, tt)
packet-any settings packet b = tt

pub reasons-any : (settings : Settings) (event : Event) (m : Moment) (b : Bridge) → Reasons Yes Yes Its Yes Any Each settings event m b
reasons-any settings (events.Field place frame) m b = frame-any settings place m frame b
reasons-any settings (events.Commands frame) m b = frame-may frame b
reasons-any settings (events.Broker packet) m b = packet-any settings packet b
reasons-any settings (events.Kept line) m b = λ doing. first-any b.down.queue
reasons-any settings (events.Found item) m b = tt
reasons-any settings (events.Stored below) m b = λ may number under. tt
reasons-any settings event m b = tt
