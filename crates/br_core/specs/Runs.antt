-- Runs of a bridge, and what must hold of each.
use Rattle.std.specs.Prelude.{◌≡◌, ◌≤◌, ℕ, ◌+◌, ◌⊎◌, Bool, true, false, nat_lt, nat_le, List, [], ◌∷◌, ◌++◌, Option, Some, None, slice_get}
use Rattle.std.specs.List.{AllByRecursion}
use Rattle.mq_packet.specs.declared.packet.Delivery.{Delivery}
use Rattle.mq_packet.specs.declared.packet.Delivery.TheVariants as deliveries
use Rattle.mq_packet.specs.declared.packet.Packet.{Packet}
use Rattle.mq_packet.specs.declared.packet.Packet.TheVariants as packets
use Rattle.mq_packet.specs.declared.packet.Qos.{Qos}
use Rattle.mq_packet.specs.declared.packet.Qos.TheVariants as levels
use Rattle.sn_frame.specs.FlagBits.{kind_of, qos_of}
use Rattle.sn_frame.specs.declared.flags.Flags.{Flags}
use Rattle.sn_frame.specs.declared.flags.Qos.TheVariants as field_levels
use Rattle.sn_frame.specs.declared.frame.Frame.{Frame}
use Rattle.sn_frame.specs.declared.frame.Frame.TheVariants as frames
use Rattle.br_core.specs.declared.action.Action.{Action}
use Rattle.br_core.specs.declared.action.Action.TheVariants as actions
use Rattle.br_core.specs.declared.event.Event.{Event}
use Rattle.br_core.specs.declared.event.Event.TheVariants as events
use Rattle.br_core.specs.declared.item.Command.{Command}
use Rattle.br_core.specs.declared.item.Flight.{Flight}
use Rattle.br_core.specs.declared.item.Item.{Item}
use Rattle.br_core.specs.declared.settings.DownFilter.{DownFilter}
use Rattle.br_core.specs.declared.settings.LaneSettings.{LaneSettings}
use Rattle.br_core.specs.declared.settings.Settings.{Settings}
use Rattle.br_core.specs.declared.settings.UpName.{UpName}
use Rattle.br_core.specs.declared.state.Bridge.{Bridge}
use Rattle.br_core.specs.declared.state.Doing.TheVariants as doings
use Rattle.br_core.specs.declared.state.Lane.{Lane}
use Rattle.br_core.specs.Begins.{begun, moment_of}
use Rattle.br_core.specs.Commands.{filter_for, stripped}
use Rattle.br_core.specs.Lanes.{name_meant}
use Rattle.br_core.specs.Sides.{item_in_flight, in_flight}
use Rattle.br_core.specs.Steps.{delivery_id, step}

-- what came, and the second of it
abbrev pub Come : Type 0
Come = Event × ℕ

-- the bridge after one thing more has come, and after all that has come
abbrev pub stepped : Settings → Bridge → Come → Bridge
stepped settings bridge come = step settings come.0 (moment_of come.1) bridge

abbrev pub after_from : Settings → Bridge → List Come → Bridge
after_from settings bridge [] = bridge
after_from settings bridge (come ∷ more) = after_from settings (stepped settings bridge come) more

abbrev pub after : Settings → List Come → Bridge
after settings run = after_from settings (begun settings) run

-- all that was to be done in a run, in its order
abbrev pub done_from : Settings → Bridge → List Come → List Action
done_from settings bridge [] = []
done_from settings bridge (come ∷ more) =
    (stepped settings bridge come).out ++ done_from settings (stepped settings bridge come) more

abbrev pub run_done : Settings → List Come → List Action
run_done settings run = done_from settings (begun settings) run

-- ---- what came

-- The reading came over its lane, in a PUBLISH with its octets, under a name that the lane had an
-- id for; it took the next number, which no other has, and it goes under the broker's topic of this
-- name.
pub record CameOver (settings : Settings) (run : List Come) (item : Item) : Type 0 where
  pub earlier : List Come
  pub later : List Come
  pub flags : Flags
  pub topic : ℕ
  pub msg_id : ℕ
  pub moment : ℕ
  pub own : LaneSettings
  pub lane : Lane
  pub name : ℕ
  pub up : UpName
  pub comes : run
      ≡ earlier
      ++ (events.Field item.lane (frames.Publish flags topic msg_id item.body), moment) ∷ later
  pub next : (after settings earlier).number ≡ item.number
  pub took : (stepped settings (after settings earlier)
      (events.Field item.lane (frames.Publish flags topic msg_id item.body), moment)).number
      ≡ item.number + 1
  pub has_own : slice_get settings.lanes item.lane ≡ Some own
  pub has_lane : slice_get (after settings earlier).lanes item.lane ≡ Some lane
  pub has_name : name_meant (kind_of flags.bits) topic own.names lane.ids ≡ Some name
  pub has_up : slice_get own.names name ≡ Some up
  pub goes_to : item.topic ≡ up.topic
  pub is_kept : item.retain ≡ up.retain

-- The spool has kept the reading since before the bridge began.
pub record WasFound (run : List Come) (item : Item) : Type 0 where
  pub earlier : List Come
  pub later : List Come
  pub moment : ℕ
  pub comes : run ≡ earlier ++ (events.Found item, moment) ∷ later

abbrev pub Came : Settings → List Come → Item → Type 0
Came settings run item = CameOver settings run item ⊎ WasFound run item

-- the field's topic of a command: what its filter leaves of the broker's, or nothing
abbrev pub topic_by : Option DownFilter → List ℕ → List ℕ
topic_by None from = []
topic_by (Some entry) from = stripped entry.strip from

abbrev pub field_topic : Settings → List ℕ → List ℕ
field_topic settings from = topic_by (filter_for from settings.downs) from

-- The command came from the broker, in a publication of its packet id, with its octets, under its
-- topic there; and its topic in the field is that which the filter leaves.
pub record CameDown (settings : Settings) (run : List Come) (command : Command) : Type 0 where
  pub earlier : List Come
  pub later : List Come
  pub delivery : Delivery
  pub retain : Bool
  pub moment : ℕ
  pub comes : run
      ≡ earlier
      ++ (events.Broker (packets.Publish delivery retain command.from command.body), moment) ∷ later
  pub has_id : command.id ≡ delivery_id delivery
  pub goes_to : command.topic ≡ field_topic settings command.from

-- The reading of this number came from the gateway of this lane, in a PUBLISH of this message id,
-- which took the number: `takes_in` says that it is in the bridge then.
pub record Brought (settings : Settings) (run : List Come) (place number msg_id : ℕ) : Type 0 where
  pub earlier : List Come
  pub later : List Come
  pub flags : Flags
  pub topic : ℕ
  pub body : List ℕ
  pub moment : ℕ
  pub comes : run
      ≡ earlier ++ (events.Field place (frames.Publish flags topic msg_id body), moment) ∷ later
  pub next : (after settings earlier).number ≡ number
  pub took : (stepped settings (after settings earlier)
      (events.Field place (frames.Publish flags topic msg_id body), moment)).number
      ≡ number + 1

-- ---- who has it

-- an action sends the reading under this packet id, for the first time
abbrev pub Sends : ℕ → Item → Action → Type 0
Sends id item (actions.Reading number packet) =
    packet ≡ in_flight false (record { id = id; item = item })
Sends id item action = ⊥

abbrev pub IsSent : ℕ → Item → List Action → Type 0
IsSent id item [] = ⊥
IsSent id item (action ∷ more) = Sends id item action ⊎ IsSent id item more

-- The broker has acknowledged the reading of this number: a PUBACK came with the packet id under
-- which it was in flight. It was sent under this id as it came.
pub record Handed (settings : Settings) (run : List Come) (number : ℕ) : Type 0 where
  pub earlier : List Come
  pub later : List Come
  pub id : ℕ
  pub moment : ℕ
  pub item : Item
  pub comes : run ≡ earlier ++ (events.Broker (packets.PubAck id), moment) ∷ later
  pub taken : item_in_flight id (after settings earlier).flight ≡ Some item
  pub same : item.number ≡ number
  pub came : Came settings earlier item
  pub sent : IsSent id item (run_done settings earlier)

-- The spool has the reading of this number: it says so of all numbers below another one, up to
-- which readings had come by then.
pub record Spooled (settings : Settings) (run : List Come) (number : ℕ) : Type 0 where
  pub earlier : List Come
  pub later : List Come
  pub below : ℕ
  pub moment : ℕ
  pub comes : run ≡ earlier ++ (events.Stored below, moment) ∷ later
  pub spools : settings.spools ≡ true
  pub given : nat_le below (after settings earlier).number ≡ true
  pub under : nat_lt number below ≡ true

-- the broker has it, or the spool
abbrev pub Answered : Settings → List Come → ℕ → Type 0
Answered settings run number = Handed settings run number ⊎ Spooled settings run number

-- whether a reading wants an acknowledgement of the broker
abbrev pub IsOne : Qos → Type 0
IsOne levels.Zero = ⊥
IsOne levels.One = Unit {0}

-- a reading of this number, which wants an acknowledgement, waits for the broker, or is in flight
abbrev pub WaitsAmong : ℕ → List Item → Type 0
WaitsAmong number [] = ⊥
WaitsAmong number (item ∷ more) = ((item.number ≡ number) × IsOne item.qos) ⊎ WaitsAmong number more

abbrev pub Flies : ℕ → List Flight → Type 0
Flies number [] = ⊥
Flies number (f ∷ more) = (f.item.number ≡ number) ⊎ Flies number more

abbrev pub IsIn : ℕ → Bridge → Type 0
IsIn number bridge = WaitsAmong number bridge.waiting ⊎ Flies number bridge.flight

-- ---- commands

-- the first command of the queue has this packet id of the broker, and came from it
abbrev pub IsFirst : (Command → Type 0) → ℕ → List Command → Type 0
IsFirst Asked id queue =
    (command : Command) × (more : List Command) × (queue ≡ command ∷ more) × (command.id ≡ id)
    × Asked command

-- The gateway has accepted the first command, which was published under this message id.
pub record Accepted (settings : Settings) (run : List Come) (id : ℕ) : Type 0 where
  pub earlier : List Come
  pub topic_id : ℕ
  pub msg_id : ℕ
  pub moment : ℕ
  pub comes : run ≡ earlier ++ (events.Commands (frames.PubAck topic_id msg_id 0), moment) ∷ []
  pub doing : (after settings earlier).down.doing ≡ doings.Publishing
  pub asked : msg_id ≡ (after settings earlier).down.msg_id
  pub first : IsFirst (CameDown settings earlier) id (after settings earlier).down.queue

-- The line of the first command, which no side will have, is on the disk.
pub record LineKept (settings : Settings) (run : List Come) (id : ℕ) : Type 0 where
  pub earlier : List Come
  pub line : ℕ
  pub moment : ℕ
  pub comes : run ≡ earlier ++ (events.Kept line, moment) ∷ []
  pub doing : (after settings earlier).down.doing ≡ doings.Refusing line
  pub first : IsFirst (CameDown settings earlier) id (after settings earlier).down.queue

-- there is a filter for a publication, and it does not hand on what the broker had kept
abbrev pub LeavesKept : Option DownFilter → Type 0
LeavesKept None = ⊥
LeavesKept (Some entry) = entry.retained ≡ false

-- The publication is one that the broker had kept, and that came because of a SUBSCRIBE. Its filter
-- does not hand such on.
pub record IsOld (settings : Settings) (run : List Come) (id : ℕ) : Type 0 where
  pub earlier : List Come
  pub dup : Bool
  pub topic : List ℕ
  pub body : List ℕ
  pub moment : ℕ
  pub comes : run ≡ earlier
      ++ (events.Broker (packets.Publish (deliveries.Acknowledged id dup) true topic body), moment)
      ∷ []
  pub left : LeavesKept (filter_for topic settings.downs)

-- why the broker may be told that a publication was taken
abbrev pub MayTell : Settings → List Come → ℕ → Type 0
MayTell settings run id =
    Accepted settings run id ⊎ (LineKept settings run id ⊎ IsOld settings run id)

-- ---- what may be done

-- A lane says PUBACK with code 0 only of a reading that has this, and came over this lane under the
-- message id that is acknowledged.
abbrev pub IsFrame : (ℕ → Type 0) → (ℕ → ℕ → ℕ → Type 0) → ℕ → Frame → Type 0
IsFrame Good Own place (frames.PubAck topic_id msg_id code) =
    code ≡ 0 → (number : ℕ) × Good number × Own place number msg_id
IsFrame Good Own place frame = Unit {0}

-- a publication carries the octets of a reading, under its topic
abbrev pub Carries : Item → Packet → Type 0
Carries item (packets.Publish delivery retain topic body) =
    (retain ≡ item.retain) × (topic ≡ item.topic) × (body ≡ item.body)
Carries item packet = ⊥

-- The broker is told PUBACK only of a publication that has this; a publication that it is to
-- acknowledge carries a reading that came.
abbrev pub IsPacket : (ℕ → Type 0) → (Item → Type 0) → Packet → Type 0
IsPacket May Came (packets.PubAck id) = May id
IsPacket May Came (packets.Publish (deliveries.Acknowledged id dup) retain topic body) =
    (item : Item) × Came item
    × Carries item (packets.Publish (deliveries.Acknowledged id dup) retain topic body)
IsPacket May Came packet = Unit {0}

-- A gateway is given the octets and the name of a command that came.
abbrev pub IsCommand : (Command → Type 0) → Frame → Type 0
IsCommand Asked (frames.Publish flags topic msg_id body) =
    (command : Command) × Asked command × (body ≡ command.body)
IsCommand Asked (frames.Register topic_id msg_id name) =
    (command : Command) × Asked command × (name ≡ command.topic)
IsCommand Asked frame = Unit {0}

abbrev pub IsJust : (ℕ → Type 0) → (ℕ → Type 0) → (ℕ → ℕ → ℕ → Type 0) → (ℕ → Type 0)
    → (Item → Type 0) → (Command → Type 0) → Action → Type 0
IsJust Good Done Own May Came Asked (actions.ToField place frame) = IsFrame Good Own place frame
IsJust Good Done Own May Came Asked (actions.ToCommands frame) = IsCommand Asked frame
IsJust Good Done Own May Came Asked (actions.ToBroker packet) = IsPacket May Came packet
IsJust Good Done Own May Came Asked (actions.Reading number packet) =
    (item : Item) × Came item × (item.number ≡ number) × Carries item packet
IsJust Good Done Own May Came Asked (actions.Refuse line command why) = Asked command
IsJust Good Done Own May Came Asked (actions.Store item) = Came item
IsJust Good Done Own May Came Asked (actions.Forget number) = Done number
IsJust Good Done Own May Came Asked action = Unit {0}

-- What is to be done after a run acknowledges nothing without a reason: to a gateway what the
-- broker or the spool has, to the broker what a gateway has accepted, what stands in a line on the
-- disk, and what is old. What goes to the broker and into the spool came, and so did what goes to
-- the gateway of the lane for commands and into a line. The spool forgets what the broker has.
abbrev pub IsAllowed : Settings → List Come → Action → Type 0
IsAllowed settings run action =
    IsJust (Answered settings run) (Handed settings run) (Brought settings run)
    (MayTell settings run) (Came settings run) (CameDown settings run) action

abbrev pub AreAllowed : Settings → List Come → List Action → Type 0
AreAllowed settings run actions = AllByRecursion (IsAllowed settings run) actions

-- ---- order

-- the numbers of the readings that went out for the first time, in this order
abbrev pub first_in : Action → List ℕ
first_in (actions.Reading number packet) = number ∷ []
first_in action = []

abbrev pub firsts : List Action → List ℕ
firsts [] = []
firsts (action ∷ more) = first_in action ++ firsts more

-- numbers go up from one on, and end below another
abbrev pub Rises : ℕ → List ℕ → ℕ → Type 0
Rises low [] high = low ≤ high
Rises low (number ∷ more) high = (low ≤ number) × Rises (number + 1) more high

-- ---- what is taken in

-- a PUBLISH comes over a lane, and has quality of service 1
abbrev pub publish_comes : ℕ → Flags → ℕ → ℕ → List ℕ → ℕ → Come
publish_comes place flags topic msg_id body moment =
    (events.Field place (frames.Publish flags topic msg_id body), moment)

abbrev pub IsAtOne : Flags → Type 0
IsAtOne flags = qos_of flags.bits ≡ field_levels.One

-- a reading of this number is to go into the spool
abbrev pub Stores : ℕ → Action → Type 0
Stores number (actions.Store item) = item.number ≡ number
Stores number action = ⊥

abbrev pub IsToStore : ℕ → List Action → Type 0
IsToStore number [] = ⊥
IsToStore number (action ∷ more) = Stores number action ⊎ IsToStore number more

-- what comes takes no number; or the reading of the next number waits or is in flight then, and is
-- to go into the spool, if there is one
abbrev pub TakesItsNumber : Settings → List Come → Come → Type 0
TakesItsNumber settings before come =
    ((stepped settings (after settings before) come).number ≡ (after settings before).number)
    ⊎ (IsIn (after settings before).number (stepped settings (after settings before) come)
    × (settings.spools ≡ true
    → IsToStore (after settings before).number (stepped settings (after settings before) come).out))

-- a reading that the spool has kept is found
abbrev pub found_again : Item → ℕ → Come
found_again item moment = (events.Found item, moment)
