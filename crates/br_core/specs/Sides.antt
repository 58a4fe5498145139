-- What is done towards the broker: what is sent, what is in flight, what is acknowledged.
use Rattle.std.specs.Prelude.{ℕ, ◌+◌, ◌==◌, ◌&&◌, Bool, true, false, nat_lt, if◌then◌else◌, List, [], ◌∷◌, ◌++◌, length, fold, Option, Some, None}
use Rattle.std.specs.List.{list_any}
use Rattle.mq_packet.specs.declared.packet.Delivery.TheVariants as deliveries
use Rattle.mq_packet.specs.declared.packet.Packet.{Packet}
use Rattle.mq_packet.specs.declared.packet.Packet.TheVariants as packets
use Rattle.mq_packet.specs.declared.packet.Qos.{Qos}
use Rattle.mq_packet.specs.declared.packet.Qos.TheVariants as levels
use Rattle.br_core.specs.declared.action.Action.{Action}
use Rattle.br_core.specs.declared.action.Action.TheVariants as actions
use Rattle.br_core.specs.declared.item.Flight.{Flight}
use Rattle.br_core.specs.declared.item.Item.{Item}
use Rattle.br_core.specs.declared.settings.Settings.{Settings}
use Rattle.br_core.specs.declared.state.Bridge.{Bridge}
use Rattle.br_core.specs.declared.state.Side.{Side}
use Rattle.br_core.specs.declared.state.Side.TheVariants as sides

-- message and packet ids go from 1 to 65,535 and begin again
abbrev pub next_id : ℕ → ℕ
next_id id = if nat_lt id 65535 then id + 1 else 1

-- tries are counted up to the greatest number of an octet
abbrev pub once_more : ℕ → ℕ
once_more tries = if nat_lt tries 255 then tries + 1 else tries

-- whether publications go both ways
abbrev pub is_broker_up : Side → Bool
is_broker_up sides.Up = true
is_broker_up side = false

-- one more thing is to be done
abbrev pub does : Action → Bridge → Bridge
does action bridge = record bridge { out = bridge.out ++ action ∷ [] }

-- a publication to the broker under a packet id, again or not
abbrev pub in_flight : Bool → Flight → Packet
in_flight dup f =
    packets.Publish (deliveries.Acknowledged f.id dup) f.item.retain f.item.topic f.item.body

-- one without a packet id
abbrev pub at_once : Item → Packet
at_once item = packets.Publish deliveries.Once item.retain item.topic item.body

-- whether a packet id is in flight
abbrev pub is_taken : ℕ → List Flight → Bool
is_taken id flight = list_any (λ f. f.id == id) flight

-- the first packet id from this one on that is not in flight; as many are looked at as are
abbrev pub free_along : List Flight → ℕ → List Flight → ℕ
free_along [] id flight = id
free_along (look ∷ more) id flight =
    if is_taken id flight then free_along more (next_id id) flight else id

abbrev pub free_packet_id : ℕ → List Flight → ℕ
free_packet_id id flight = free_along flight id flight

-- whether the broker takes one more reading of this quality of service now
abbrev pub has_window : Settings → Qos → List Flight → Bool
has_window settings levels.Zero flight = true
has_window settings levels.One flight = nat_lt (length flight) settings.window

-- a reading is sent under a packet id, and is in flight
abbrev pub sent_under : ℕ → Item → Bridge → Bridge
sent_under id item bridge =
    does (actions.Reading item.number (in_flight false (record { id = id; item = item })))
    (record bridge {
      flight = bridge.flight ++ record { id = id; item = item } ∷ [];
      packet_id = next_id id;
    })

-- a reading is sent; without an acknowledgement it is handed on at once
abbrev pub item_sent : Qos → Item → Bridge → Bridge
item_sent levels.Zero item bridge = does (actions.Reading item.number (at_once item)) bridge
item_sent levels.One item bridge =
    sent_under (free_packet_id bridge.packet_id bridge.flight) item bridge

-- a reading waits behind those that wait
abbrev pub item_waits : Item → Bridge → Bridge
item_waits item bridge = record bridge { waiting = bridge.waiting ++ item ∷ [] }

-- A reading is sent, unless another one waits or the window is full: so they keep their order.
abbrev pub offered : Settings → Bridge → Item → Bridge
offered settings bridge item =
    if (length bridge.waiting == 0) && has_window settings item.qos bridge.flight
    then item_sent item.qos item bridge else item_waits item bridge

-- what waits is sent from the front, as far as the window is open
abbrev pub sent_along : Settings → List Item → Bridge → Bridge
sent_along settings [] bridge = bridge
sent_along settings (item ∷ more) bridge =
    if has_window settings item.qos bridge.flight
    then sent_along settings more (item_sent item.qos item (record bridge { waiting = more }))
    else bridge

abbrev pub sends : Settings → Bridge → Bridge
sends settings bridge = sent_along settings bridge.waiting bridge

-- while the broker is away, a reading that is not acknowledged is not kept
abbrev pub kept_while_away : Qos → Item → Bridge → Bridge
kept_while_away levels.Zero item bridge = bridge
kept_while_away levels.One item bridge = item_waits item bridge

-- a lane has brought a reading
abbrev pub takes_at : Side → Settings → Item → Bridge → Bridge
takes_at sides.Up settings item bridge = offered settings bridge item
takes_at side settings item bridge = kept_while_away item.qos item bridge

abbrev pub takes : Settings → Item → Bridge → Bridge
takes settings item bridge = takes_at bridge.side settings item bridge

-- the reading that a PUBACK of the broker acknowledges, and what is left in flight
abbrev pub item_in_flight : ℕ → List Flight → Option Item
item_in_flight id [] = None
item_in_flight id (f ∷ more) = if f.id == id then Some f.item else item_in_flight id more

abbrev pub left_in_flight : ℕ → List Flight → List Flight
left_in_flight id [] = []
left_in_flight id (f ∷ more) = if f.id == id then more else f ∷ left_in_flight id more

-- what is in flight goes out again, in its order, under its packet ids
abbrev pub out_again : List Action → Flight → List Action
out_again out f = out ++ actions.ToBroker (in_flight true f) ∷ []

abbrev pub all_again : Bridge → Bridge
all_again bridge = record bridge { out = fold out_again bridge.out bridge.flight }
