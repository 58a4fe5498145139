-- Who gets a publication, and at which quality of service (MQTT-SN 1.2 section 6.10).
use Rattle.std.specs.Prelude.{ℕ, Bool, ◌||◌, ◌&&◌, not, if◌then◌else◌, nat_lt, min, List, length, filter, Option, Some, None, option_and_then}
use Rattle.std.specs.Option.{option_map}
use Rattle.std.specs.List.{filter_map}
use Rattle.sn_session.specs.declared.presence.Presence.{Presence}
use Rattle.sn_session.specs.declared.session.Session.{Session}
use Rattle.sn_session.specs.declared.will.Will.{Will}
use Rattle.sn_tables.specs.Subscriptions.{subscribed_qos}
use Rattle.rep_op.specs.declared.op.Put.{Put}
use Rattle.rep_op.specs.Sets.{same_client}
use Rattle.rep_model.specs.declared.view.ClientView.{ClientView}
use Rattle.sn_plan.specs.declared.draft.NewPut.{NewPut}
use Rattle.sn_local.specs.Seen.{Seen}
use Rattle.sn_plan.specs.Others.{is_up}
use Rattle.sn_plan.specs.declared.limits.TheConstants.{MAX_PENDING}

-- This quality of service, if the client is admitted. Fewer than 1,024 messages wait for it; and it
-- is Active, Asleep or Awake, or gets the message at least once.
abbrev pub admitted : List Put → Presence → ℕ → Option ℕ
admitted pending presence qos =
    if nat_lt (length pending) MAX_PENDING && (is_up presence || nat_lt 0 qos) then Some qos
    else None

-- the effective quality of service is the smaller of that of the publication and the one subscribed
-- to
abbrev pub effective_qos : List Put → ℕ → Session → ℕ → Option ℕ
effective_qos pending qos s asked = admitted pending s.presence (min qos asked)

-- the quality of service at which this session gets the publication; none if it does not get it
abbrev pub qos_in : List Put → List ℕ → ℕ → Session → Option ℕ
qos_in pending topic qos s =
    option_and_then (effective_qos pending qos s) (subscribed_qos topic s.subscriptions)

-- the quality of service at which a client gets the publication; none if it is no recipient
abbrev pub qos_for : List ℕ → ℕ → ClientView → Option ℕ
qos_for topic qos v = option_and_then (qos_in v.pending topic qos) v.session

-- the message that is made for a client
abbrev pub message_for : List ℕ → List ℕ → List ℕ → ℕ → NewPut
message_for topic body c qos = record { client = c; topic = topic; qos = qos; body = body }

-- the message for the client, if it is a recipient
abbrev pub put_for : Seen → List ℕ → ℕ → List ℕ → List ℕ → Option NewPut
put_for seen topic qos body c =
    option_map (message_for topic body c) (qos_for topic qos (seen.of c))

-- a message for each recipient among these clients, in their order
abbrev pub puts_among : Seen → List (List ℕ) → List ℕ → ℕ → List ℕ → List NewPut
puts_among seen clients topic qos body = filter_map (put_for seen topic qos body) clients

-- a message for each recipient of the publication, in the order of the clients
abbrev pub puts_for : Seen → List ℕ → ℕ → List ℕ → List NewPut
puts_for seen topic qos body = puts_among seen seen.all topic qos body

-- whether d is another client than c
abbrev pub is_another : List ℕ → List ℕ → Bool
is_another c d = not (same_client d c)

-- a message for each recipient of a will, but not for the client whose will it is
abbrev pub puts_of_will : Seen → List ℕ → Will → List NewPut
puts_of_will seen c will =
    puts_among seen (filter (is_another c) seen.all) will.topic will.qos will.message
