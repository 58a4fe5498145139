-- What follows a row: Resend or Delivery (MQTT-SN 1.2 sections 6.6, 6.10, 6.13 and 6.14). It sees
-- the session as the row has changed it. Its messages waited before the step, and the row does not
-- acknowledge them.
use Rattle.std.specs.Prelude.{ℕ, List, Option, Some, None}
use Rattle.sn_topic.specs.Table.{Entries}
use Rattle.sn_session.specs.declared.session.Session.{Session}
use Rattle.rep_op.specs.declared.op.Put.{Put}
use Rattle.sn_local.specs.declared.config.Addr.{Addr}
use Rattle.sn_plan.specs.declared.plan.Plan.{Plan}
use Rattle.sn_plan.specs.declared.row.Row.{Row}
use Rattle.sn_plan.specs.declared.row.Follow.{Follow}
use Rattle.sn_plan.specs.declared.row.Follow.TheVariants as follows
use Rattle.sn_plan.specs.Drafts.{Drafted}
use Rattle.sn_local.specs.Seen.{Seen}
use Rattle.sn_plan.specs.Bound.{session_of}
use Rattle.sn_plan.specs.Rows.{plan_of_row}
use Rattle.sn_exchange.specs.declared.peer.Peer.{Peer}
use Rattle.sn_exchange.specs.Delivery.{then_deliver}
use Rattle.sn_exchange.specs.Resending.{then_resend}

-- the client that a step is about, with its address and the moment
abbrev pub peer_at : Addr → List ℕ → ℕ → Peer
peer_at a c now = record { address = a; client = c; moment = now }

-- a draft with what follows it
abbrev pub followed_by : Entries → Peer → Session → List Put → Drafted → Follow → Drafted
followed_by predefined peer s pending d follows.Nothing = d
followed_by predefined peer s pending d follows.Delivery = then_deliver predefined peer s pending d
followed_by predefined peer s pending d follows.Resend = then_resend predefined peer s pending d

-- a draft with what follows it for the client of the row; without one nothing follows
abbrev pub followed_for : Entries → Seen → Addr → ℕ → Drafted → Follow → Option (List ℕ) → Drafted
followed_for predefined seen a now d follow None = d
followed_for predefined seen a now d follow (Some c) =
    followed_by predefined (peer_at a c now) (session_of seen c) (seen.of c).pending d follow

-- a draft with what follows it, if the row has a client: the one that is visited
abbrev pub followed_to :
    Entries → Peer → Session → List Put → Drafted → Follow → Option (List ℕ) → Drafted
followed_to predefined peer s pending d follow None = d
followed_to predefined peer s pending d follow (Some c) =
    followed_by predefined peer s pending d follow

-- a row of the client that is visited, or of nobody, with what follows it
abbrev pub visited : Entries → Peer → Session → List Put → Row → Row
visited predefined peer s pending row =
    record row { draft = followed_to predefined peer s pending row.draft row.follow row.client }

-- a row with what follows it, for its client at that address
abbrev pub followed : Entries → Seen → Addr → ℕ → Row → Row
followed predefined seen a now row =
    record row { draft = followed_for predefined seen a now row.draft row.follow row.client }

-- the plan of a row with what follows it
abbrev pub deliver_next : ℕ → Entries → Seen → Addr → ℕ → Row → Option Plan
deliver_next g predefined seen a now row = plan_of_row g seen (followed predefined seen a now row)
