-- The open exchange of a client: the message that it is being handed (MQTT-SN 1.2 sections 6.6 and
-- 6.10).
use Rattle.std.specs.Prelude.{ℕ, ◌==◌, Bool, true, false, ◌&&◌, not, if◌then◌else◌, nat_lt, is_some, List, find, filter, Option, Some, None}
use Rattle.std.specs.List.{list_any}
use Rattle.sn_session.specs.declared.presence.Presence.{Presence}
use Rattle.sn_session.specs.declared.presence.Presence.TheVariants.{Active, Awake}
use Rattle.sn_session.specs.declared.outbound.Outbound.{Outbound}
use Rattle.sn_session.specs.declared.outbound.Phase.{Phase}
use Rattle.sn_session.specs.declared.outbound.Phase.TheVariants.{Registering, Published, Released}
use Rattle.sn_session.specs.declared.session.Session.{Session}
use Rattle.sn_tables.specs.Topics.{topic_named}
use Rattle.rep_op.specs.declared.op.Put.{Put}
use Rattle.rep_op.specs.Orders.{name_of}

-- whether two names of messages are the same sequence number and origin
abbrev pub same_name : ℕ × ℕ → ℕ × ℕ → Bool
same_name a b = (a.0 == b.0) && (a.1 == b.1)

-- whether a message is acknowledged in this step
abbrev pub is_done : List (ℕ × ℕ) → ℕ × ℕ → Bool
is_done acks name = list_any (λ ack. same_name ack name) acks

-- whether a message is left: it is not acknowledged in this step
abbrev pub is_left : List (ℕ × ℕ) → Put → Bool
is_left acks put = not (is_done acks (name_of put))

-- the messages that are left: those that wait and are not acknowledged in this step
abbrev pub left : List (ℕ × ℕ) → List Put → List Put
left acks pending = filter (is_left acks) pending

-- the message of a name, if it waits
abbrev pub put_named : ℕ × ℕ → List Put → Option Put
put_named name pending = find (λ put. same_name (name_of put) name) pending

-- the message of a name that waits and is not acknowledged in this step, if there is one
abbrev pub put_left : List (ℕ × ℕ) → List Put → ℕ × ℕ → Option Put
put_left acks pending name = if is_done acks name then None else put_named name pending

-- the name of the message of an exchange
abbrev pub message_of : Outbound → ℕ × ℕ
message_of x = (x.seq, x.origin)

-- An exchange that waits for PUBCOMP is open. One that waits for REGACK is open while its message
-- is left and its topic has an entry. One that waits for PUBACK or PUBREC is open while its message
-- is left and asks for an answer.
abbrev pub is_open_in : Session → Phase → Option Put → Bool
is_open_in s Registering None = false
is_open_in s Registering (Some put) = is_some (topic_named put.topic s.topics)
is_open_in s Published None = false
is_open_in s Published (Some put) = nat_lt 0 put.qos
is_open_in s Released put = true

-- the exchange if it is open, else none
abbrev pub if_open : Session → List (ℕ × ℕ) → List Put → Option Outbound → Option Outbound
if_open s acks pending None = None
if_open s acks pending (Some x) =
    if is_open_in s x.phase (put_left acks pending (message_of x)) then Some x else None

-- the open exchange; one that is not open counts as none
abbrev pub open_exchange : Session → List (ℕ × ℕ) → List Put → Option Outbound
open_exchange s acks pending = if_open s acks pending s.outbound

-- a client that is sent its messages: Active or Awake
abbrev pub is_served : Presence → Bool
is_served Active = true
is_served Awake = true
is_served presence = false

-- whether the client is Awake: it sleeps, and takes its messages in between (section 6.14)
abbrev pub is_awake : Presence → Bool
is_awake Awake = true
is_awake presence = false
