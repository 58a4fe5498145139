-- The rows of REGISTER, SUBSCRIBE and UNSUBSCRIBE of a bound client (MQTT-SN 1.2 sections 6.5 and
-- 6.9).
use Rattle.std.specs.Prelude.{ℕ, List, Option, Some, None}
use Rattle.sn_topic.specs.Table.{Entries}
use Rattle.sn_local.specs.declared.config.Addr.{Addr}
use Rattle.sn_plan.specs.declared.row.Row.{Row}
use Rattle.sn_plan.specs.declared.row.Follow.TheVariants.{Delivery}
use Rattle.sn_local.specs.Seen.{Seen}
use Rattle.sn_local.specs.Bindings.{client_at}
use Rattle.sn_local.specs.Locals.{Local}
use Rattle.sn_plan.specs.Bound.{session_of}
use Rattle.sn_plan.specs.Rows.{row_of, row_with_timer, turned_away}
use Rattle.sn_subscribe.specs.Handing.{waiting_for}
use Rattle.sn_subscribe.specs.Registration.{register as register_draft}
use Rattle.sn_subscribe.specs.Subscription.{subscribe as subscribe_draft, unsubscribe as unsubscribe_draft}

-- REGISTER of the bound client; without one the address is turned away
abbrev pub register_of : Seen → Addr → Option (List ℕ) → ℕ → List ℕ → ℕ → Row
register_of seen a None msg_id name now = turned_away a
register_of seen a (Some c) msg_id name now =
    row_with_timer (Some c) now
    (row_of Delivery c (register_draft a (session_of seen c) msg_id name))

-- the row of REGISTER (6.5)
abbrev pub register : Seen → Local → Addr → ℕ → List ℕ → ℕ → Row
register seen local a msg_id name now =
    register_of seen a (client_at a local.bindings) msg_id name now

-- SUBSCRIBE of the bound client; without one the address is turned away
abbrev pub subscribe_of : Entries → Seen → Addr → Option (List ℕ) → ℕ → ℕ → List ℕ → ℕ → Row
subscribe_of predefined seen a None bits msg_id field now = turned_away a
subscribe_of predefined seen a (Some c) bits msg_id field now =
    row_with_timer (Some c) now
    (row_of Delivery c
    (subscribe_draft predefined seen (waiting_for seen c) a (session_of seen c) bits msg_id field))

-- the row of SUBSCRIBE (6.9)
abbrev pub subscribe : Entries → Seen → Local → Addr → ℕ → ℕ → List ℕ → ℕ → Row
subscribe predefined seen local a bits msg_id field now =
    subscribe_of predefined seen a (client_at a local.bindings) bits msg_id field now

-- UNSUBSCRIBE of the bound client; without one the address is turned away
abbrev pub unsubscribe_of : Entries → Seen → Addr → Option (List ℕ) → ℕ → ℕ → List ℕ → ℕ → Row
unsubscribe_of predefined seen a None bits msg_id field now = turned_away a
unsubscribe_of predefined seen a (Some c) bits msg_id field now =
    row_with_timer (Some c) now
    (row_of Delivery c (unsubscribe_draft predefined a (session_of seen c) bits msg_id field))

-- the row of UNSUBSCRIBE (6.9)
abbrev pub unsubscribe : Entries → Seen → Local → Addr → ℕ → ℕ → List ℕ → ℕ → Row
unsubscribe predefined seen local a bits msg_id field now =
    unsubscribe_of predefined seen a (client_at a local.bindings) bits msg_id field now
