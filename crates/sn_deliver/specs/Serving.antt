-- Publications and acknowledgements as rows.
use Rattle.std.specs.Prelude.{ℕ, List, Option, Some, None}
use Rattle.sn_topic.specs.Table.{Entries}
use Rattle.sn_frame.specs.declared.flags.Qos.{Qos}
use Rattle.sn_frame.specs.declared.flags.Qos.TheVariants as levels
use Rattle.sn_frame.specs.declared.frame.Frame.{Frame}
use Rattle.sn_frame.specs.FlagBits.{qos_of}
use Rattle.sn_local.specs.declared.config.Addr.{Addr}
use Rattle.sn_plan.specs.declared.row.Row.{Row}
use Rattle.sn_plan.specs.Drafts.{Drafted}
use Rattle.sn_local.specs.Seen.{Seen}
use Rattle.sn_local.specs.Bindings.{client_at}
use Rattle.sn_local.specs.Locals.{Local}
use Rattle.sn_plan.specs.Bound.{session_of}
use Rattle.sn_plan.specs.Rows.{row_of_none, served, turned_away}
use Rattle.sn_exchange.specs.declared.peer.Peer.{Peer}
use Rattle.sn_exchange.specs.Following.{peer_at}
use Rattle.sn_publish.specs.Publishing.{publish, publish_unconnected, pubrel}
use Rattle.sn_deliver.specs.Acknowledging.{acknowledge}

-- PUBLISH of the bound client; without one the address is turned away
abbrev pub publish_of : Entries → Seen → Addr → Option (List ℕ) → ℕ → ℕ → ℕ → List ℕ → ℕ → Row
publish_of predefined seen a None bits topic msg_id body now = turned_away a
publish_of predefined seen a (Some c) bits topic msg_id body now =
    served c now (publish predefined seen a (session_of seen c) bits topic msg_id body)

-- PUBLISH by its quality of service: at -1 no client is heard of, and no Delivery follows
abbrev pub publish_in_at : Entries → Seen → Local → Addr → ℕ → ℕ → ℕ → List ℕ → ℕ → Qos → Row
publish_in_at predefined seen local a bits topic msg_id body now levels.MinusOne =
    row_of_none (publish_unconnected predefined seen bits topic body)
publish_in_at predefined seen local a bits topic msg_id body now level =
    publish_of predefined seen a (client_at a local.bindings) bits topic msg_id body now

-- the row of PUBLISH (6.6 and 6.8)
abbrev pub publish_in : Entries → Seen → Local → Addr → ℕ → ℕ → ℕ → List ℕ → ℕ → Row
publish_in predefined seen local a bits topic msg_id body now =
    publish_in_at predefined seen local a bits topic msg_id body now (qos_of bits)

-- PUBREL of the bound client; without one the address is turned away
abbrev pub pubrel_of : Seen → Addr → Option (List ℕ) → ℕ → ℕ → Row
pubrel_of seen a None msg_id now = turned_away a
pubrel_of seen a (Some c) msg_id now = served c now (pubrel a (session_of seen c) msg_id)

-- the row of PUBREL (6.6)
abbrev pub pubrel_in : Seen → Local → Addr → ℕ → ℕ → Row
pubrel_in seen local a msg_id now = pubrel_of seen a (client_at a local.bindings) msg_id now

-- what an acknowledgement of the client does, by what the gateway sees of it
abbrev pub ack_draft : Entries → Seen → Peer → Frame → Drafted
ack_draft predefined seen peer frame =
    acknowledge predefined peer (session_of seen peer.client) (seen.of peer.client).pending frame

-- an acknowledgement of the bound client; without one the address is turned away
abbrev pub ack_row : Entries → Seen → Addr → Option (List ℕ) → Frame → ℕ → Row
ack_row predefined seen a None frame now = turned_away a
ack_row predefined seen a (Some c) frame now =
    served c now (ack_draft predefined seen (peer_at a c now) frame)

-- the row of PUBACK, PUBREC, PUBCOMP and REGACK
abbrev pub ack_in : Entries → Seen → Local → Addr → Frame → ℕ → Row
ack_in predefined seen local a frame now =
    ack_row predefined seen a (client_at a local.bindings) frame now
