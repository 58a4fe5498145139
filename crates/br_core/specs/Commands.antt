-- The way of a command into the field: one at a time, in the order in which the broker sent them.
use Rattle.std.specs.Prelude.{ℕ, ◌+◌, ◌*◌, ◌==◌, Bool, true, false, ◌||◌, ◌&&◌, not, nat_lt, nat_le, if◌then◌else◌, List, [], ◌∷◌, ◌++◌, length, take, drop, Option, Some, None}
use Rattle.std.specs.List.{list_any}
use Rattle.std.specs.Str.{bytes_eq}
use Rattle.mq_packet.specs.declared.packet.Packet.TheVariants as packets
use Rattle.sn_frame.specs.declared.flags.Flags.{Flags}
use Rattle.sn_frame.specs.declared.frame.Frame.{Frame}
use Rattle.sn_frame.specs.declared.frame.Frame.TheVariants as frames
use Rattle.sn_topic.specs.Levels.{has_wildcard}
use Rattle.sn_topic.specs.Matching.{is_match}
use Rattle.sn_topic.specs.declared.level.TheConstants.{MAX_TOPIC}
use Rattle.br_core.specs.declared.action.Action.TheVariants as actions
use Rattle.br_core.specs.declared.action.Why.{Why}
use Rattle.br_core.specs.declared.action.Why.TheVariants as whys
use Rattle.br_core.specs.declared.item.Command.{Command}
use Rattle.br_core.specs.declared.settings.DownFilter.{DownFilter}
use Rattle.br_core.specs.declared.state.Bridge.{Bridge}
use Rattle.br_core.specs.declared.state.Doing.{Doing}
use Rattle.br_core.specs.declared.state.Doing.TheVariants as doings
use Rattle.br_core.specs.declared.state.Down.{Down}
use Rattle.br_core.specs.declared.state.Moment.{Moment}
use Rattle.br_core.specs.declared.state.NamedTopic.{NamedTopic}
use Rattle.br_core.specs.declared.state.Phase.{Phase}
use Rattle.br_core.specs.declared.state.Phase.TheVariants as phases
use Rattle.br_core.specs.declared.state.TheConstants.{KEEP_ALIVE, LAST_NUMBER, MAX_BODY, MAX_COMMANDS, MAX_NAMES, TRIES}
use Rattle.br_core.specs.Sides.{does, next_id, once_more}

-- the bridge with this lane for commands
abbrev pub put_down : Down → Bridge → Bridge
put_down down bridge = record bridge { down = down }

-- and a frame to its gateway
abbrev pub says_down : Frame → Down → Bridge → Bridge
says_down frame down bridge = does (actions.ToCommands frame) (put_down down bridge)

-- CONNECT with a clean session (flag 4): no subscription, and no id is used up
abbrev pub connecting : List ℕ → Moment → Down → Bridge → Bridge
connecting client m down bridge =
    says_down (frames.Connect (record { bits = 4 }) 1 KEEP_ALIVE client)
    (record down {
      phase = phases.Connecting;
      tries = once_more down.tries;
      due = m.retry;
      ids = [];
    }) bridge

-- the filter that asks for a topic
abbrev pub filter_for : List ℕ → List DownFilter → Option DownFilter
filter_for topic [] = None
filter_for topic (entry ∷ more) =
    if is_match entry.filter topic then Some entry else filter_for topic more

-- what is left of a topic without what is stripped, or nothing
abbrev pub stripped : List ℕ → List ℕ → List ℕ
stripped strip topic =
    if bytes_eq (take (length strip) topic) strip then drop (length strip) topic else []

-- whether octets are no topic of the field: empty, too long or with a wildcard
abbrev pub is_no_topic : List ℕ → Bool
is_no_topic topic =
    (length topic == 0) || nat_lt MAX_TOPIC (length topic) || has_wildcard topic

-- why the field cannot carry a command
abbrev pub obstacle : Command → Option Why
obstacle command =
    if is_no_topic command.topic then Some whys.Topic
    else (if nat_lt MAX_BODY (length command.body) then Some whys.Body else None)

-- a command waits for its turn
abbrev pub queued : ℕ → List ℕ → List ℕ → List ℕ → Bridge → Bridge
queued id from topic body bridge =
    put_down (record bridge.down {
      queue = bridge.down.queue ++ record { id = id; from = from; topic = topic; body = body } ∷ [];
    }) bridge

-- the broker is told that a publication was taken, if it wants to be
abbrev pub broker_told : ℕ → Bridge → Bridge
broker_told id bridge =
    if id == 0 then bridge else does (actions.ToBroker (packets.PubAck id)) bridge

-- a publication of the broker waits for its turn. A message that the broker kept is acknowledged at
-- once, unless the filter hands such messages on.
abbrev pub command_asked : Option DownFilter → ℕ → Bool → List ℕ → List ℕ → Bridge → Bridge
command_asked None id retain topic body bridge = queued id topic [] body bridge
command_asked (Some entry) id retain topic body bridge =
    if retain && not entry.retained
    then broker_told id bridge
    else queued id topic (stripped entry.strip topic) body bridge

-- whether a packet id waits already; id 0 is none
abbrev pub is_waiting : ℕ → List Command → Bool
is_waiting id queue = list_any (λ command. command.id == id) queue

abbrev pub is_queued : ℕ → List Command → Bool
is_queued id queue = if id == 0 then false else is_waiting id queue

-- whether there is no room for a command, or there was none for one before it
abbrev pub is_queue_full : Down → Bool
is_queue_full down = down.is_behind || nat_le MAX_COMMANDS (length down.queue)

-- a command for which there is no room is passed over: if the broker waits for its acknowledgement,
-- it sends it again in its next connection
abbrev pub passed_over : ℕ → Bridge → Bridge
passed_over id bridge =
    if id == 0 then bridge else put_down (record bridge.down { is_behind = true }) bridge

-- what comes again while it waits is the same command; without room it is passed over, and so is
-- all that comes after it
abbrev pub commanded : List DownFilter → ℕ → Bool → List ℕ → List ℕ → Bridge → Bridge
commanded downs id retain topic body bridge =
    if is_queued id bridge.down.queue then bridge
    else (if is_queue_full bridge.down then passed_over id bridge
    else command_asked (filter_for topic downs) id retain topic body bridge)

-- the topic id of a topic
abbrev pub id_of : List ℕ → List NamedTopic → Option ℕ
id_of topic [] = None
id_of topic (entry ∷ more) =
    if bytes_eq entry.topic topic then Some entry.id else id_of topic more

-- a name of two octets is its own id
abbrev pub short_name_id : List ℕ → Option ℕ
short_name_id (high ∷ low ∷ []) = Some (high * 256 + low)
short_name_id name = None

-- PUBLISH at quality of service 1: DUP if it was sent before, and 2 for a short name
abbrev pub publish_flags : Bool → Bool → Flags
publish_flags dup short =
    record { bits = (if dup then 0x80 else 0) + 0x20 + (if short then 2 else 0) }

-- the message id of what is sent: that of the last time, if it is sent again
abbrev pub sent_id : Bool → ℕ → ℕ
sent_id dup id = if dup then id else next_id id

abbrev pub publishing : Bool → Bool → ℕ → Moment → Command → Down → Bridge → Bridge
publishing dup short topic_id m command down bridge =
    says_down
    (frames.Publish (publish_flags dup short) topic_id (sent_id dup down.msg_id) command.body)
    (record down {
      doing = doings.Publishing;
      tries = once_more down.tries;
      due = m.retry;
      msg_id = sent_id dup down.msg_id;
    }) bridge

-- the connection is over, and another one is due
abbrev pub away : Moment → Down → Bridge → Bridge
away m down bridge =
    put_down (record down { phase = phases.Away; tries = 0; due = m.at }) bridge

-- the name is registered first; a session that has no id left begins anew
abbrev pub command_registering : Moment → Command → Down → Bridge → Bridge
command_registering m command down bridge =
    if nat_lt (length down.ids) MAX_NAMES
    then says_down (frames.Register 0 (next_id down.msg_id) command.topic)
    (record down {
      doing = doings.Registering;
      tries = once_more down.tries;
      due = m.retry;
      msg_id = next_id down.msg_id;
    }) bridge
    else away m down bridge

-- a command goes out under its id, or its name is registered first
abbrev pub sent_under : Option ℕ → Bool → Moment → Command → Down → Bridge → Bridge
sent_under None dup m command down bridge = command_registering m command down bridge
sent_under (Some id) dup m command down bridge = publishing dup false id m command down bridge

abbrev pub sent_as : Option ℕ → Bool → Moment → Command → Down → Bridge → Bridge
sent_as None dup m command down bridge =
    sent_under (id_of command.topic down.ids) dup m command down bridge
sent_as (Some id) dup m command down bridge = publishing dup true id m command down bridge

-- nobody will have it: a line says so
abbrev pub refusing : Why → Command → Down → Bridge → Bridge
refusing why command down bridge =
    if nat_lt down.line LAST_NUMBER
    then does (actions.Refuse down.line command why)
    (put_down (record down {
      doing = doings.Refusing down.line;
      line = down.line + 1;
    }) bridge)
    else put_down down bridge

-- a command is begun: what the field cannot carry is refused; else it waits until the lane is
-- connected
abbrev pub sent_in : Phase → Bool → Moment → Command → Down → Bridge → Bridge
sent_in phases.Listening dup m command down bridge =
    sent_as (short_name_id command.topic) dup m command down bridge
sent_in phase dup m command down bridge = put_down down bridge

abbrev pub begun_by : Option Why → Bool → Moment → Command → Down → Bridge → Bridge
begun_by (Some why) dup m command down bridge = refusing why command down bridge
begun_by None dup m command down bridge = sent_in down.phase dup m command down bridge

abbrev pub command_begun : List Command → Bool → Moment → Down → Bridge → Bridge
command_begun [] dup m down bridge = put_down down bridge
command_begun (command ∷ more) dup m down bridge =
    begun_by (obstacle command) dup m command down bridge

-- the first command is begun, if none is
abbrev pub begun_at : Doing → Moment → Bridge → Bridge
begun_at doings.Nothing m bridge = command_begun bridge.down.queue false m bridge.down bridge
begun_at doing m bridge = bridge

abbrev pub command_begins : Moment → Bridge → Bridge
command_begins m bridge = begun_at bridge.down.doing m bridge

-- the first command is done: the broker is told, and the next one is begun
abbrev pub done_with : List Command → Bridge → Bridge
done_with [] bridge = put_down (record bridge.down { doing = doings.Nothing; tries = 0 }) bridge
done_with (command ∷ more) bridge =
    broker_told command.id
    (put_down (record bridge.down { doing = doings.Nothing; tries = 0; queue = more }) bridge)

abbrev pub command_done : Moment → Bridge → Bridge
command_done m bridge = command_begins m (done_with bridge.down.queue bridge)

-- congestion: it is sent again later
abbrev pub later : Moment → Bridge → Bridge
later m bridge = put_down (record bridge.down { due = m.retry; tries = 0 }) bridge

-- the gateway's answer to a command: accepted; congestion; no such id, and the session begins anew;
-- or it takes none
abbrev pub answered_first : List Command → ℕ → Moment → Bridge → Bridge
answered_first [] code m bridge = bridge
answered_first (command ∷ more) code m bridge =
    if code == 0 then command_done m bridge
    else (if code == 1 then later m bridge
    else (if code == 2 then away m bridge.down bridge
    else refusing whys.Gateway command bridge.down bridge))

-- the topic id of a command's name is known
abbrev pub command_named : ℕ → Command → Bridge → Bridge
command_named id command bridge =
    put_down (record bridge.down {
      tries = 0;
      ids = bridge.down.ids ++ record { id = id; topic = command.topic } ∷ [];
    }) bridge

-- and to a REGISTER: an id; congestion; or no such topic
abbrev pub named_first : List Command → ℕ → ℕ → Moment → Bridge → Bridge
named_first [] topic_id code m bridge = bridge
named_first (command ∷ more) topic_id code m bridge =
    if code == 0
    then publishing false false topic_id m command (command_named topic_id command bridge).down
    (command_named topic_id command bridge)
    else (if code == 1 then later m bridge
    else refusing whys.Gateway command bridge.down bridge)

-- what comes while nothing is awaited shows that the gateway is there
abbrev pub command_lane_heard_at : Doing → Moment → Down → Down
command_lane_heard_at doings.Publishing m down = down
command_lane_heard_at doings.Registering m down = down
command_lane_heard_at doing m down =
    if down.tries == 0 then down else record down { tries = 0; due = m.ping }

abbrev pub command_lane_heard : Moment → Bridge → Bridge
command_lane_heard m bridge =
    put_down (command_lane_heard_at bridge.down.doing m bridge.down) bridge

-- PUBACK and REGACK are answers to what was sent last, if that was a PUBLISH and a REGISTER
abbrev pub acked_at : Doing → ℕ → ℕ → Moment → Bridge → Bridge
acked_at doings.Publishing msg_id code m bridge =
    if msg_id == bridge.down.msg_id then answered_first bridge.down.queue code m bridge else bridge
acked_at doing msg_id code m bridge = command_lane_heard m bridge

abbrev pub named_at : Doing → ℕ → ℕ → ℕ → Moment → Bridge → Bridge
named_at doings.Registering topic_id msg_id code m bridge =
    if msg_id == bridge.down.msg_id then named_first bridge.down.queue topic_id code m bridge
    else bridge
named_at doing topic_id msg_id code m bridge = command_lane_heard m bridge

-- a frame of the gateway while the lane is connected
abbrev pub listening_frame : Moment → Frame → Bridge → Bridge
listening_frame m (frames.PubAck topic_id msg_id code) bridge =
    acked_at bridge.down.doing msg_id code m bridge
listening_frame m (frames.RegAck topic_id msg_id code) bridge =
    named_at bridge.down.doing topic_id msg_id code m bridge
listening_frame m (frames.Disconnect duration) bridge = away m bridge.down bridge
listening_frame m frame bridge = command_lane_heard m bridge

-- a command that the last connection did not bring to its end begins again; a line that is being
-- written stays so
abbrev pub unfinished : Doing → Doing
unfinished (doings.Refusing line) = doings.Refusing line
unfinished doing = doings.Nothing

-- CONNACK 0: commands go out
abbrev pub connected : Moment → Frame → Bridge → Bridge
connected m (frames.ConnAck code) bridge =
    if code == 0
    then command_begins m (put_down (record bridge.down {
      phase = phases.Listening;
      tries = 0;
      due = m.ping;
      doing = unfinished bridge.down.doing;
    }) bridge)
    else bridge
connected m frame bridge = bridge

abbrev pub frame_in : Phase → Moment → Frame → Bridge → Bridge
frame_in phases.Connecting m frame bridge = connected m frame bridge
frame_in phases.Listening m frame bridge = listening_frame m frame bridge
frame_in phase m frame bridge = bridge

abbrev pub down_frame : Moment → Frame → Bridge → Bridge
down_frame m frame bridge = frame_in bridge.down.phase m frame bridge

-- what is due is sent again
abbrev pub again_at : Doing → Moment → Bridge → Bridge
again_at doings.Publishing m bridge = command_begun bridge.down.queue true m bridge.down bridge
again_at doings.Registering m bridge = command_begun bridge.down.queue false m bridge.down bridge
again_at doing m bridge =
    says_down (frames.PingReq [])
    (record bridge.down { tries = once_more bridge.down.tries; due = m.retry }) bridge

abbrev pub command_again : Phase → List ℕ → Moment → Bridge → Bridge
command_again phases.Listening client m bridge = again_at bridge.down.doing m bridge
command_again phase client m bridge = connecting client m bridge.down bridge

-- the gateway does not answer: the next one is tried
abbrev pub gives_up : Moment → Bridge → Bridge
gives_up m bridge =
    does actions.NextCommands (away m bridge.down bridge)

abbrev pub down_tick : List ℕ → Moment → Bridge → Bridge
down_tick client m bridge =
    if nat_lt m.at bridge.down.due then bridge
    else (if nat_le TRIES bridge.down.tries then gives_up m bridge
    else command_again bridge.down.phase client m bridge)

-- a line is kept: it counts if it is that of the first command
abbrev pub line_kept : Doing → ℕ → Moment → Bridge → Bridge
line_kept (doings.Refusing own) line m bridge =
    if own == line then command_done m bridge else bridge
line_kept doing line m bridge = bridge

abbrev pub kept : ℕ → Moment → Bridge → Bridge
kept line m bridge = line_kept bridge.down.doing line m bridge
