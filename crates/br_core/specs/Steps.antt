-- The step of the whole bridge.
use Rattle.std.specs.Prelude.{ℕ, ◌+◌, ◌/◌, ◌==◌, ◌&&◌, ◌||◌, Bool, true, false, nat_lt, nat_le, if◌then◌else◌, List, [], ◌∷◌, length, slice_get, Option, Some, None}
use Rattle.std.specs.List.{list_any}
use Rattle.mq_packet.specs.declared.packet.Delivery.{Delivery}
use Rattle.mq_packet.specs.declared.packet.Delivery.TheVariants as deliveries
use Rattle.mq_packet.specs.declared.packet.Packet.{Packet}
use Rattle.mq_packet.specs.declared.packet.Packet.TheVariants as packets
use Rattle.mq_packet.specs.declared.packet.Qos.{Qos}
use Rattle.mq_packet.specs.declared.packet.Qos.TheVariants as levels
use Rattle.br_core.specs.declared.action.Action.TheVariants as actions
use Rattle.br_core.specs.declared.event.Event.{Event}
use Rattle.br_core.specs.declared.event.Event.TheVariants as events
use Rattle.br_core.specs.declared.item.Item.{Item}
use Rattle.br_core.specs.declared.settings.DownFilter.{DownFilter}
use Rattle.br_core.specs.declared.settings.LaneSettings.{LaneSettings}
use Rattle.br_core.specs.declared.settings.Settings.{Settings}
use Rattle.br_core.specs.declared.state.Bridge.{Bridge}
use Rattle.br_core.specs.declared.state.Doing.TheVariants as doings
use Rattle.br_core.specs.declared.state.Down.{Down}
use Rattle.br_core.specs.declared.state.Lane.{Lane}
use Rattle.br_core.specs.declared.state.Moment.{Moment}
use Rattle.br_core.specs.declared.state.Side.{Side}
use Rattle.br_core.specs.declared.state.Side.TheVariants as sides
use Rattle.br_core.specs.declared.state.TheConstants.{BROKER_KEEP_ALIVE, LAST_NUMBER}
use Rattle.br_core.specs.Commands.{command_begins, commanded, down_frame, down_tick, kept}
use Rattle.br_core.specs.Lanes.{answers, falls_asleep, keeps, lane_frame, lane_tick, wakes}
use Rattle.br_core.specs.Sides.{item_in_flight, all_again, does, free_packet_id, is_broker_up, left_in_flight, next_id, sends, takes}

-- what one lane does, if there is such a lane
abbrev pub lane_does : Option LaneSettings → Option Lane → (LaneSettings → Lane → Bridge → Bridge)
    → Bridge → Bridge
lane_does None lane f bridge = bridge
lane_does (Some own) None f bridge = bridge
lane_does (Some own) (Some lane) f bridge = f own lane bridge

abbrev pub at_lane : Settings → ℕ → (LaneSettings → Lane → Bridge → Bridge) → Bridge → Bridge
at_lane settings place f bridge =
    lane_does (slice_get settings.lanes place) (slice_get bridge.lanes place) f bridge

-- these lanes, from a place on, do the same
abbrev pub lanes_along : List LaneSettings → ℕ → Settings
    → (ℕ → LaneSettings → Lane → Bridge → Bridge) → Bridge → Bridge
lanes_along [] place settings f bridge = bridge
lanes_along (own ∷ more) place settings f bridge =
    lanes_along more (place + 1) settings f (at_lane settings place (f place) bridge)

abbrev pub each_lane : Settings → (ℕ → LaneSettings → Lane → Bridge → Bridge) → Bridge → Bridge
each_lane settings f bridge = lanes_along settings.lanes 0 settings f bridge

-- whether what lanes bring can be acknowledged soon: by the broker, or by the spool; else they
-- sleep
abbrev pub may_listen : Bridge → Bool
may_listen bridge = is_broker_up bridge.side || bridge.is_storing

abbrev pub lanes_rest : Settings → Bridge → Bridge
lanes_rest settings bridge =
    if may_listen bridge then bridge
    else each_lane settings (λ place. falls_asleep place) bridge

-- lanes that sleep wake if they can acknowledge, and half of the room is free
abbrev pub may_wake : Settings → Bridge → Bool
may_wake settings bridge =
    may_listen bridge && nat_le (length bridge.waiting) (settings.room / 2)

abbrev pub rouses : Settings → Moment → Bridge → Bridge
rouses settings m bridge =
    if may_wake settings bridge
    then each_lane settings (λ place. wakes place m) bridge else bridge

-- what waits is sent, if the broker is there
abbrev pub sends_at : Side → Settings → Bridge → Bridge
sends_at sides.Up settings bridge = sends settings bridge
sends_at side settings bridge = bridge

abbrev pub sends_all : Settings → Bridge → Bridge
sends_all settings bridge = sends_at bridge.side settings bridge

-- the broker's topic tells that the bridge is there
abbrev pub says_here : Settings → Bridge → Bridge
says_here settings bridge =
    does (actions.ToBroker (packets.Publish deliveries.Once true settings.state settings.here))
    bridge

-- The broker is there: what is in flight goes out again, what waits is sent, lanes wake.
abbrev pub up : Settings → Moment → Bridge → Bridge
up settings m bridge =
    each_lane settings (λ place. wakes place m)
    (sends settings (all_again (says_here settings
    (record bridge { side = sides.Up; due = m.ping; tries = 0 }))))

-- the filter of this number is subscribed to; after the last one publications go both ways
abbrev pub subscribe_under : ℕ → List ℕ → ℕ → Moment → Bridge → Bridge
subscribe_under id filter next m bridge =
    does (actions.ToBroker (packets.Subscribe id filter levels.One))
    (record bridge { side = sides.Subscribing next; due = m.retry; packet_id = next_id id })

abbrev pub subscribing_at : Option DownFilter → Settings → ℕ → Moment → Bridge → Bridge
subscribing_at None settings next m bridge =
    up settings m (record bridge { is_subscribed = true })
subscribing_at (Some entry) settings next m bridge =
    subscribe_under (free_packet_id bridge.packet_id bridge.flight) entry.filter next m bridge

abbrev pub subscribing : Settings → ℕ → Moment → Bridge → Bridge
subscribing settings next m bridge =
    subscribing_at (slice_get settings.downs next) settings next m bridge

-- the connection ends: what is in flight stays so, and what the broker sent comes again from it
abbrev pub connection_ended : ℕ → Bridge → Bridge
connection_ended due bridge =
    record bridge {
      side = sides.Closed;
      due = due;
      tries = 0;
      down = record bridge.down { queue = []; doing = doings.Nothing; is_behind = false };
    }

-- lanes fall asleep, if they may not acknowledge
abbrev pub connection_lost : Settings → ℕ → Bridge → Bridge
connection_lost settings due bridge = lanes_rest settings (connection_ended due bridge)

-- the connection is ended by the bridge, and dialled again when it is due
abbrev pub hangs_up : Settings → ℕ → Bridge → Bridge
hangs_up settings due bridge = does actions.HangUp (connection_lost settings due bridge)

-- whether one of the filters hands on what the broker had kept
abbrev pub wants_kept : List DownFilter → Bool
wants_kept downs = list_any (λ entry. entry.retained) downs

-- CONNACK: the filters are subscribed to. But they are not if the broker knows the session, this
-- run has subscribed to all of them, and one hands on what the broker had kept, which would come
-- again. Or the broker does not want us, and is asked again in a minute.
abbrev pub welcomed_at : Bool → Settings → Moment → Bridge → Bridge
welcomed_at true settings m bridge = up settings m bridge
welcomed_at false settings m bridge =
    subscribing settings 0 m (record bridge { is_subscribed = false })

abbrev pub broker_welcomed : Settings → Bool → ℕ → Moment → Bridge → Bridge
broker_welcomed settings session code m bridge =
    if code == 0
    then welcomed_at (session && bridge.is_subscribed && wants_kept settings.downs) settings m
    bridge
    else hangs_up settings m.minute bridge

-- the spool need not keep a reading any longer, if there is a spool
abbrev pub forgets : Settings → ℕ → Bridge → Bridge
forgets settings number bridge =
    if settings.spools then does (actions.Forget number) bridge else bridge

-- the broker has acknowledged a reading: its lane may, and what waits is sent; of another packet id
-- nothing is in flight
abbrev pub item_acked : Option Item → Settings → ℕ → Bridge → Bridge
item_acked None settings id bridge = record bridge { flight = left_in_flight id bridge.flight }
item_acked (Some item) settings id bridge =
    sends_all settings (at_lane settings item.lane (answers item.number item.lane)
    (forgets settings item.number (record bridge { flight = left_in_flight id bridge.flight })))

abbrev pub broker_acked : Settings → ℕ → Bridge → Bridge
broker_acked settings id bridge = item_acked (item_in_flight id bridge.flight) settings id bridge

-- a publication of the broker is a command; without a packet id it wants no acknowledgement
abbrev pub delivery_id : Delivery → ℕ
delivery_id deliveries.Once = 0
delivery_id (deliveries.Acknowledged id dup) = id

abbrev pub broker_publication : Settings → Delivery → Bool → List ℕ → List ℕ → Moment → Bridge
    → Bridge
broker_publication settings delivery retain topic body m bridge =
    command_begins m (commanded settings.downs (delivery_id delivery) retain topic body bridge)

-- a packet of the broker while publications go both ways
abbrev pub up_packet : Settings → Moment → Packet → Bridge → Bridge
up_packet settings m (packets.PubAck id) bridge = broker_acked settings id bridge
up_packet settings m (packets.Publish delivery retain topic body) bridge =
    broker_publication settings delivery retain topic body m bridge
up_packet settings m packet bridge = bridge

-- whether a filter is granted as it was asked for, at quality of service 1
abbrev pub is_granted : Option Qos → Bool
is_granted None = false
is_granted (Some levels.Zero) = false
is_granted (Some levels.One) = true

-- SUBACK of the filter: the next one; a filter that is not granted ends the connection
abbrev pub named_at : Bool → Settings → ℕ → Moment → Bridge → Bridge
named_at true settings next m bridge = subscribing settings (next + 1) m bridge
named_at false settings next m bridge = hangs_up settings m.minute bridge

abbrev pub naming_packet : Settings → ℕ → Moment → Packet → Bridge → Bridge
naming_packet settings next m (packets.SubAck id granted) bridge =
    if (next_id id == bridge.packet_id) && nat_lt next LAST_NUMBER
    then named_at (is_granted granted) settings next m bridge
    else bridge
naming_packet settings next m packet bridge = up_packet settings m packet bridge

-- the first packet is a CONNACK
abbrev pub new_packet : Settings → Moment → Packet → Bridge → Bridge
new_packet settings m (packets.ConnAck session code) bridge =
    broker_welcomed settings session code m bridge
new_packet settings m packet bridge = hangs_up settings m.retry bridge

-- what comes shows that the broker is there: the next sign of life is due later, if one was asked
-- for
abbrev pub broker_heard : Moment → Bridge → Bridge
broker_heard m bridge =
    if bridge.tries == 0 then bridge else record bridge { tries = 0; due = m.ping }

-- a packet of the broker, by how far the connection is
abbrev pub packet_in : Side → Settings → Moment → Packet → Bridge → Bridge
packet_in sides.Closed settings m packet bridge = bridge
packet_in sides.Connecting settings m packet bridge = new_packet settings m packet bridge
packet_in (sides.Subscribing next) settings m packet bridge =
    naming_packet settings next m packet bridge
packet_in sides.Up settings m packet bridge = up_packet settings m packet (broker_heard m bridge)

-- the connection is there: CONNECT, and the broker keeps the session
abbrev pub connection_opened : Settings → Moment → Bridge → Bridge
connection_opened settings m bridge =
    does (actions.ToBroker
    (packets.Connect false BROKER_KEEP_ALIVE settings.client settings.will settings.login))
    (record bridge { side = sides.Connecting; due = m.retry; tries = 0 })

-- time goes by for the broker's side: it is dialled, asked whether it is there, or given up
abbrev pub asks_broker : Settings → Moment → Bridge → Bridge
asks_broker settings m bridge =
    if bridge.tries == 0
    then does (actions.ToBroker packets.PingReq) (record bridge { tries = 1; due = m.retry })
    else hangs_up settings m.soon bridge

abbrev pub side_due : Side → Settings → Moment → Bridge → Bridge
side_due sides.Closed settings m bridge = does actions.Dial (record bridge { due = m.retry })
side_due sides.Up settings m bridge = asks_broker settings m bridge
side_due side settings m bridge = hangs_up settings m.soon bridge

-- whether all commands that were taken are done, and others were passed over: these come again from
-- a new connection
abbrev pub has_passed_over : Down → Bool
has_passed_over down = down.is_behind && (length down.queue == 0)

abbrev pub side_tick : Settings → Moment → Bridge → Bridge
side_tick settings m bridge =
    if has_passed_over bridge.down then hangs_up settings m.soon bridge
    else (if nat_lt m.at bridge.due then bridge else side_due bridge.side settings m bridge)

abbrev pub ticks : Settings → Moment → Bridge → Bridge
ticks settings m bridge =
    side_tick settings m (down_tick settings.commands m
    (each_lane settings (λ place. lane_tick place m) (rouses settings m bridge)))

-- readings of smaller numbers than this one came before the bridge began
abbrev pub counts_on : ℕ → Bridge → Bridge
counts_on number bridge =
    if nat_le bridge.number number then record bridge { number = number } else bridge

-- a reading that came before the bridge began goes on its way again, if it comes in its order
abbrev pub comes_in_order : Item → Bridge → Bool
comes_in_order item bridge = nat_le bridge.number item.number && nat_lt item.number LAST_NUMBER

abbrev pub reading_found : Settings → Item → Bridge → Bridge
reading_found settings item bridge =
    if comes_in_order item bridge
    then takes settings item (record bridge { number = item.number + 1 }) else bridge

-- The spool takes readings, and has those of smaller numbers than this one, all of which came:
-- lanes may acknowledge them.
abbrev pub may_keep : Settings → ℕ → Bridge → Bool
may_keep settings below bridge = settings.spools && nat_le below bridge.number

abbrev pub stored : Settings → ℕ → Bridge → Bridge
stored settings below bridge =
    if may_keep settings below bridge
    then each_lane settings (λ place. keeps below place) (record bridge { is_storing = true })
    else bridge

-- the spool takes no readings: lanes fall asleep, if the broker is away too
abbrev pub store_failed : Settings → Bridge → Bridge
store_failed settings bridge = lanes_rest settings (record bridge { is_storing = false })

-- what an event makes of the bridge, and adds to what is to be done
abbrev pub event_step : Settings → Event → Moment → Bridge → Bridge
event_step settings (events.Field place frame) m bridge =
    at_lane settings place (lane_frame settings place m frame) bridge
event_step settings (events.Commands frame) m bridge = down_frame m frame bridge
event_step settings (events.Broker packet) m bridge =
    packet_in bridge.side settings m packet bridge
event_step settings events.BrokerOpen m bridge = connection_opened settings m bridge
event_step settings events.BrokerLost m bridge = connection_lost settings m.soon bridge
event_step settings (events.Kept line) m bridge = kept line m bridge
event_step settings (events.Resumed number) m bridge = counts_on number bridge
event_step settings (events.Found item) m bridge = reading_found settings item bridge
event_step settings (events.Stored below) m bridge = stored settings below bridge
event_step settings events.StoreFailed m bridge = store_failed settings bridge
event_step settings events.Tick m bridge = ticks settings m bridge

-- the step of an event: nothing is left to be done of the step before
abbrev pub nothing_out : Bridge → Bridge
nothing_out bridge = record bridge { out = [] }

abbrev pub step : Settings → Event → Moment → Bridge → Bridge
step settings event m bridge = event_step settings event m (nothing_out bridge)
