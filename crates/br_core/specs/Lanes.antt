-- What a lane does: a client of the field that brings readings. `place` is its place among the
-- lanes, and `own` are its settings.
use Rattle.std.specs.Prelude.{ℕ, ◌+◌, ◌/◌, ◌%◌, ◌==◌, Bool, true, false, ◌&&◌, ◌||◌, not, nat_lt, nat_le, if◌then◌else◌, List, [], ◌∷◌, length, slice_get, slice_set, Option, Some, None}
use Rattle.std.specs.Str.{bytes_eq}
use Rattle.mq_packet.specs.declared.packet.Qos.{Qos}
use Rattle.mq_packet.specs.declared.packet.Qos.TheVariants as levels
use Rattle.sn_frame.specs.FlagBits.{kind_of, qos_of}
use Rattle.sn_frame.specs.declared.flags.Flags.{Flags}
use Rattle.sn_frame.specs.declared.flags.Qos.{Qos as FieldQos}
use Rattle.sn_frame.specs.declared.flags.Qos.TheVariants as field_levels
use Rattle.sn_frame.specs.declared.flags.TopicIdType.{TopicIdType}
use Rattle.sn_frame.specs.declared.flags.TopicIdType.TheVariants as kinds
use Rattle.sn_frame.specs.declared.frame.Frame.{Frame}
use Rattle.sn_frame.specs.declared.frame.Frame.TheVariants as frames
use Rattle.br_core.specs.declared.action.Action.TheVariants as actions
use Rattle.br_core.specs.declared.item.Item.{Item}
use Rattle.br_core.specs.declared.settings.LaneSettings.{LaneSettings}
use Rattle.br_core.specs.declared.settings.Settings.{Settings}
use Rattle.br_core.specs.declared.settings.UpName.{UpName}
use Rattle.br_core.specs.declared.state.Bridge.{Bridge}
use Rattle.br_core.specs.declared.state.Lane.{Lane}
use Rattle.br_core.specs.declared.state.Moment.{Moment}
use Rattle.br_core.specs.declared.state.Named.{Named}
use Rattle.br_core.specs.declared.state.Open.{Open}
use Rattle.br_core.specs.declared.state.Phase.{Phase}
use Rattle.br_core.specs.declared.state.Phase.TheVariants as phases
use Rattle.br_core.specs.declared.state.TheConstants.{KEEP_ALIVE, LAST_NUMBER, MAX_BODY, MAX_IDS, SLEEP, TRIES}
use Rattle.br_core.specs.Sides.{does, is_broker_up, next_id, once_more, takes}

-- a lane in its place
abbrev pub seated : ℕ → Lane → Bridge → Bridge
seated place lane bridge = record bridge { lanes = slice_set bridge.lanes place lane }

-- and a frame to its gateway
abbrev pub says : ℕ → Frame → Lane → Bridge → Bridge
says place frame lane bridge = does (actions.ToField place frame) (seated place lane bridge)

-- CONNECT is sent. The session is kept; the ids of the last connection are not, nor is the message
-- that it brought last: a message id means nothing in another connection.
abbrev pub connecting : LaneSettings → ℕ → Moment → Lane → Bridge → Bridge
connecting own place m lane bridge =
    says place (frames.Connect (record { bits = 0 }) 1 KEEP_ALIVE own.client)
    (record lane {
      phase = phases.Connecting;
      tries = once_more lane.tries;
      due = m.retry;
      ids = [];
      last = None;
    }) bridge

-- the flags of a SUBSCRIBE: 0x20 for quality of service 1, and 2 for a short name
abbrev pub subscribe_bits : Qos → ℕ
subscribe_bits levels.Zero = 0
subscribe_bits levels.One = 0x20

abbrev pub subscribe_flags : UpName → Flags
subscribe_flags up =
    record { bits = subscribe_bits up.qos + (if length up.name == 2 then 2 else 0) }

-- the name of this number is subscribed to; after the last one the lane listens
abbrev pub subscribing_at : Option UpName → ℕ → ℕ → Moment → Lane → Bridge → Bridge
subscribing_at None place next m lane bridge =
    seated place (record lane { phase = phases.Listening; tries = 0; due = m.ping }) bridge
subscribing_at (Some up) place next m lane bridge =
    says place (frames.Subscribe (subscribe_flags up) lane.msg_id up.name)
    (record lane {
      phase = phases.Subscribing next;
      tries = once_more lane.tries;
      due = m.retry;
      msg_id = next_id lane.msg_id;
    }) bridge

abbrev pub subscribing : LaneSettings → ℕ → ℕ → Moment → Lane → Bridge → Bridge
subscribing own place next m lane bridge =
    subscribing_at (slice_get own.names next) place next m lane bridge

-- which of the names a topic id is
abbrev pub name_at : ℕ → List Named → Option ℕ
name_at id [] = None
name_at id (entry ∷ more) = if entry.id == id then Some entry.name else name_at id more

-- where a name is among those of the lane, counted from a place
abbrev pub name_place_from : ℕ → List ℕ → List UpName → Option ℕ
name_place_from at name [] = None
name_place_from at name (up ∷ more) =
    if bytes_eq up.name name then Some at else name_place_from (at + 1) name more

abbrev pub name_place : List ℕ → List UpName → Option ℕ
name_place name names = name_place_from 0 name names

-- the two octets of a short name
abbrev pub short_octets : ℕ → List ℕ
short_octets topic = topic / 256 ∷ topic % 256 ∷ []

-- which of the names a topic field of PUBLISH means
abbrev pub name_meant : TopicIdType → ℕ → List UpName → List Named → Option ℕ
name_meant kinds.Normal topic names ids = name_at topic ids
name_meant kinds.Short topic names ids = name_place (short_octets topic) names
name_meant kind topic names ids = None

-- a reading of a lane, at the quality of service that the gateway gave it: the lane has asked for
-- no greater one than the settings allow
abbrev pub item_of : ℕ → ℕ → Qos → UpName → List ℕ → Item
item_of number lane qos up body =
    record {
      number = number;
      lane = lane;
      topic = up.topic;
      qos = qos;
      retain = up.retain;
      body = body;
    }

-- whether the spool can keep these octets, if there is one: no gateway has more
abbrev pub body_fits : Settings → List ℕ → Bool
body_fits settings body = not settings.spools || nat_le (length body) MAX_BODY

-- whether one more reading is taken, which has these octets
abbrev pub reading_has_room : Settings → List ℕ → Bridge → Bool
reading_has_room settings body bridge =
    body_fits settings body && nat_lt (length bridge.waiting) settings.room
    && nat_lt bridge.number LAST_NUMBER

-- a reading of this quality of service gets the next number
abbrev pub reading_counted : Settings → ℕ → Qos → UpName → List ℕ → Bridge → Bridge
reading_counted settings place qos up body bridge =
    takes settings (item_of bridge.number place qos up body)
    (record bridge { number = bridge.number + 1 })

-- a reading goes into the spool, if there is one
abbrev pub stored : Settings → Item → Bridge → Bridge
stored settings item bridge = if settings.spools then does (actions.Store item) bridge else bridge

-- what a lane has brought and may not acknowledge yet
abbrev pub open_of : ℕ → ℕ → ℕ → ℕ → List ℕ → Open
open_of number name topic_id msg_id body =
    record {
      number = number;
      name = name;
      topic_id = topic_id;
      msg_id = msg_id;
      body = body;
      is_answered = false;
    }

-- the same message again: the same name, message id and octets
abbrev pub is_same : ℕ → ℕ → List ℕ → Open → Bool
is_same name msg_id body held =
    (held.name == name) && (held.msg_id == msg_id) && bytes_eq held.body body

-- a lane that may not acknowledge falls asleep
abbrev pub asleep_in : Phase → ℕ → Lane → Bridge → Bridge
asleep_in phases.Away place lane bridge =
    seated place (record lane { phase = phases.Asleep; tries = 0 }) bridge
asleep_in phases.Asleep place lane bridge = bridge
asleep_in phase place lane bridge =
    says place (frames.Disconnect (Some SLEEP))
    (record lane { phase = phases.Asleep; tries = 0 }) bridge

abbrev pub falls_asleep : ℕ → LaneSettings → Lane → Bridge → Bridge
falls_asleep place own lane bridge = asleep_in lane.phase place lane bridge

-- a message of quality of service 1 is brought, and waits for its acknowledgement; without room it
-- is as if it had not come, and the lane falls asleep
abbrev pub brings : Settings → ℕ → ℕ → UpName → ℕ → ℕ → List ℕ → Lane → Bridge → Bridge
brings settings place name up topic_id msg_id body lane bridge =
    if reading_has_room settings body bridge
    then stored settings (item_of bridge.number place levels.One up body)
    (reading_counted settings place levels.One up body
    (seated place (record lane { last = Some (open_of bridge.number name topic_id msg_id body) })
    bridge))
    else asleep_in lane.phase place lane bridge

-- a message that was answered is acknowledged again; one that waits is not brought twice
abbrev pub again_at : Bool → ℕ → ℕ → ℕ → Open → Lane → Bridge → Bridge
again_at true place topic_id msg_id held lane bridge =
    says place (frames.PubAck topic_id msg_id 0)
    (record lane { last = Some (record held { topic_id = topic_id }) }) bridge
again_at false place topic_id msg_id held lane bridge =
    seated place (record lane { last = Some (record held { topic_id = topic_id }) }) bridge

abbrev pub brings_if : Option Open → Settings → ℕ → ℕ → UpName → ℕ → ℕ → List ℕ → Lane → Bridge
    → Bridge
brings_if None settings place name up topic_id msg_id body lane bridge =
    brings settings place name up topic_id msg_id body lane bridge
brings_if (Some held) settings place name up topic_id msg_id body lane bridge =
    if is_same name msg_id body held
    then again_at held.is_answered place topic_id msg_id held lane bridge
    else brings settings place name up topic_id msg_id body lane bridge

-- a reading of quality of service 0 goes on, if the broker is there and there is room; else it
-- takes no number
abbrev pub reading_goes_on : Settings → List ℕ → Bridge → Bool
reading_goes_on settings body bridge =
    is_broker_up bridge.side && reading_has_room settings body bridge

abbrev pub passes : Settings → ℕ → UpName → List ℕ → Lane → Bridge → Bridge
passes settings place up body lane bridge =
    if reading_goes_on settings body bridge
    then reading_counted settings place levels.Zero up body (seated place lane bridge)
    else seated place lane bridge

-- a PUBLISH under a name of the lane, by its quality of service: 2 was never asked for
abbrev pub publication_at : FieldQos → Settings → ℕ → ℕ → UpName → ℕ → ℕ → List ℕ → Lane → Bridge
    → Bridge
publication_at field_levels.Zero settings place name up topic_id msg_id body lane bridge =
    passes settings place up body lane bridge
publication_at field_levels.One settings place name up topic_id msg_id body lane bridge =
    brings_if lane.last settings place name up topic_id msg_id body lane bridge
publication_at qos settings place name up topic_id msg_id body lane bridge =
    seated place lane bridge

-- The code that refuses a topic that is none of the lane's. After code 2 the gateway registers an
-- id again. What is no id it would drop: while names are subscribed to it is asked to wait (code
-- 1), and then publishes by the id.
abbrev pub refusal_at : Phase → ℕ
refusal_at (phases.Subscribing next) = 1
refusal_at phase = 2

abbrev pub refusal_code : TopicIdType → Phase → ℕ
refusal_code kinds.Normal phase = 2
refusal_code kind phase = refusal_at phase

-- a message under such a topic is refused
abbrev pub unknown_at : FieldQos → TopicIdType → ℕ → ℕ → ℕ → Lane → Bridge → Bridge
unknown_at field_levels.One kind place topic_id msg_id lane bridge =
    says place (frames.PubAck topic_id msg_id (refusal_code kind lane.phase)) lane bridge
unknown_at qos kind place topic_id msg_id lane bridge = seated place lane bridge

abbrev pub named_at : Option UpName → FieldQos → TopicIdType → Settings → ℕ → ℕ → ℕ → ℕ → List ℕ
    → Lane → Bridge → Bridge
named_at None qos kind settings place name topic_id msg_id body lane bridge =
    unknown_at qos kind place topic_id msg_id lane bridge
named_at (Some up) qos kind settings place name topic_id msg_id body lane bridge =
    publication_at qos settings place name up topic_id msg_id body lane bridge

abbrev pub topic_known_at : Option ℕ → FieldQos → TopicIdType → Settings → LaneSettings → ℕ → ℕ → ℕ
    → List ℕ → Lane → Bridge → Bridge
topic_known_at None qos kind settings own place topic_id msg_id body lane bridge =
    unknown_at qos kind place topic_id msg_id lane bridge
topic_known_at (Some name) qos kind settings own place topic_id msg_id body lane bridge =
    named_at (slice_get own.names name) qos kind settings place name topic_id msg_id body lane
    bridge

abbrev pub lane_publication : Settings → LaneSettings → ℕ → Flags → ℕ → ℕ → List ℕ → Lane → Bridge
    → Bridge
lane_publication settings own place flags topic_id msg_id body lane bridge =
    topic_known_at (name_meant (kind_of flags.bits) topic_id own.names lane.ids) (qos_of flags.bits)
    (kind_of flags.bits) settings own place topic_id msg_id body lane bridge

-- the connection is over, and another one is due
abbrev pub goes_away : ℕ → Moment → Lane → Bridge → Bridge
goes_away place m lane bridge =
    seated place (record lane { phase = phases.Away; tries = 0; due = m.at }) bridge

-- REGISTER of one of the names gives its topic id; another name is none of the lane's; a lane that
-- has as many ids as it holds connects anew
abbrev pub name_registered : Option ℕ → ℕ → Moment → ℕ → ℕ → Lane → Bridge → Bridge
name_registered None place m topic_id msg_id lane bridge =
    says place (frames.RegAck topic_id msg_id 3) lane bridge
name_registered (Some name) place m topic_id msg_id lane bridge =
    if nat_lt (length lane.ids) MAX_IDS
    then says place (frames.RegAck topic_id msg_id 0)
    (record lane { ids = record { id = topic_id; name = name } ∷ lane.ids }) bridge
    else goes_away place m lane bridge

-- a frame that comes while the lane is connected
abbrev pub awake_frame : Settings → LaneSettings → ℕ → Moment → Frame → Lane → Bridge → Bridge
awake_frame settings own place m (frames.Publish flags topic msg_id body) lane bridge =
    lane_publication settings own place flags topic msg_id body lane bridge
awake_frame settings own place m (frames.Register topic_id msg_id name) lane bridge =
    name_registered (name_place name own.names) place m topic_id msg_id lane bridge
awake_frame settings own place m (frames.Disconnect duration) lane bridge =
    goes_away place m lane bridge
awake_frame settings own place m frame lane bridge = seated place lane bridge

-- CONNACK 0 begins the subscriptions
abbrev pub connected : LaneSettings → ℕ → Moment → Frame → Lane → Bridge → Bridge
connected own place m (frames.ConnAck code) lane bridge =
    if code == 0 then subscribing own place 0 m (record lane { tries = 0 }) bridge else bridge
connected own place m frame lane bridge = bridge

-- SUBACK 0 of the name gives its topic id, unless the name is short, and goes on to the next
abbrev pub with_id : ℕ → ℕ → List Named → List Named
with_id topic_id next ids =
    if topic_id == 0 then ids else record { id = topic_id; name = next } ∷ ids

abbrev pub lane_subscribed : LaneSettings → ℕ → ℕ → Moment → ℕ → ℕ → Lane → Bridge → Bridge
lane_subscribed own place next m topic_id code lane bridge =
    if code == 0
    then subscribing own place (next + 1) m
    (record lane { tries = 0; ids = with_id topic_id next lane.ids }) bridge
    else bridge

-- SUBACK of the SUBSCRIBE that was sent last. There is no name after the last number of a name.
abbrev pub is_its : ℕ → ℕ → Lane → Bool
is_its next msg_id lane = (next_id msg_id == lane.msg_id) && nat_lt next LAST_NUMBER

abbrev pub naming_frame : Settings → LaneSettings → ℕ → ℕ → Moment → Frame → Lane → Bridge → Bridge
naming_frame settings own place next m (frames.SubAck flags topic_id msg_id code) lane bridge =
    if is_its next msg_id lane
    then lane_subscribed own place next m topic_id code lane bridge
    else bridge
naming_frame settings own place next m frame lane bridge =
    awake_frame settings own place m frame lane bridge

-- what comes shows that the gateway is there: the next sign of life is due later, if one was asked
-- for; else as it was, since the gateway counts what it hears, not what it says
abbrev pub lane_heard : Moment → Lane → Lane
lane_heard m lane = if lane.tries == 0 then lane else record lane { tries = 0; due = m.ping }

-- a frame of the gateway, by the phase
abbrev pub frame_in : Phase → Settings → LaneSettings → ℕ → Moment → Frame → Lane → Bridge → Bridge
frame_in phases.Away settings own place m frame lane bridge = bridge
frame_in phases.Connecting settings own place m frame lane bridge =
    connected own place m frame lane bridge
frame_in (phases.Subscribing next) settings own place m frame lane bridge =
    naming_frame settings own place next m frame lane bridge
frame_in phases.Listening settings own place m frame lane bridge =
    awake_frame settings own place m frame (lane_heard m lane) bridge
frame_in phases.Asleep settings own place m frame lane bridge = bridge

abbrev pub lane_frame : Settings → ℕ → Moment → Frame → LaneSettings → Lane → Bridge → Bridge
lane_frame settings place m frame own lane bridge =
    frame_in lane.phase settings own place m frame lane bridge

-- a sign of life
abbrev pub pings : ℕ → Moment → Lane → List ℕ → Bridge → Bridge
pings place m lane client bridge =
    says place (frames.PingReq client)
    (record lane { tries = once_more lane.tries; due = m.retry }) bridge

-- what is due is sent again
abbrev pub lane_again : Phase → LaneSettings → ℕ → Moment → Lane → Bridge → Bridge
lane_again phases.Away own place m lane bridge = connecting own place m lane bridge
lane_again phases.Connecting own place m lane bridge = connecting own place m lane bridge
lane_again (phases.Subscribing next) own place m lane bridge =
    subscribing own place next m lane bridge
lane_again phases.Listening own place m lane bridge = pings place m lane [] bridge
lane_again phases.Asleep own place m lane bridge = bridge

-- the gateway does not answer: the next one is tried at once
abbrev pub gives_up : ℕ → Moment → Lane → Bridge → Bridge
gives_up place m lane bridge = does (actions.NextGateway place) (goes_away place m lane bridge)

-- time goes by
abbrev pub lane_tick : ℕ → Moment → LaneSettings → Lane → Bridge → Bridge
lane_tick place m own lane bridge =
    if nat_lt m.at lane.due then bridge
    else (if nat_le TRIES lane.tries then gives_up place m lane bridge
    else lane_again lane.phase own place m lane bridge)

-- a lane that sleeps wakes: it connects
abbrev pub wakes_in : Phase → LaneSettings → ℕ → Moment → Lane → Bridge → Bridge
wakes_in phases.Asleep own place m lane bridge = connecting own place m lane bridge
wakes_in phase own place m lane bridge = bridge

abbrev pub wakes : ℕ → Moment → LaneSettings → Lane → Bridge → Bridge
wakes place m own lane bridge = wakes_in lane.phase own place m lane bridge

-- whether the gateway takes an acknowledgement now
abbrev pub is_lane_awake : Phase → Bool
is_lane_awake (phases.Subscribing next) = true
is_lane_awake phases.Listening = true
is_lane_awake phase = false

-- the broker has acknowledged a reading: if it is the lane's open one, so may the lane
abbrev pub answered_at : Bool → ℕ → Open → Lane → Bridge → Bridge
answered_at true place held lane bridge =
    says place (frames.PubAck held.topic_id held.msg_id 0)
    (record lane { last = Some (record held { is_answered = true }) }) bridge
answered_at false place held lane bridge =
    seated place (record lane { last = Some (record held { is_answered = true }) }) bridge

abbrev pub answers_open : Option Open → ℕ → ℕ → Lane → Bridge → Bridge
answers_open None number place lane bridge = bridge
answers_open (Some held) number place lane bridge =
    if (held.number == number) && not held.is_answered
    then answered_at (is_lane_awake lane.phase) place held lane bridge else bridge

abbrev pub answers : ℕ → ℕ → LaneSettings → Lane → Bridge → Bridge
answers number place own lane bridge = answers_open lane.last number place lane bridge

-- the spool has all readings of smaller numbers than this one: if the lane's open one is among
-- them, it may be acknowledged
abbrev pub keeps_open : Option Open → ℕ → ℕ → Lane → Bridge → Bridge
keeps_open None below place lane bridge = bridge
keeps_open (Some held) below place lane bridge =
    if nat_lt held.number below && not held.is_answered
    then answered_at (is_lane_awake lane.phase) place held lane bridge else bridge

abbrev pub keeps : ℕ → ℕ → LaneSettings → Lane → Bridge → Bridge
keeps below place own lane bridge = keeps_open lane.last below place lane bridge
