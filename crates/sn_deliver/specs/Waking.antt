-- Waking: a client comes back from sleep, here or at another gateway (MQTT-SN 1.2 sections 6.11 and
-- 6.14).
use Rattle.std.specs.Prelude.{ℕ, ◌==◌, Bool, ◌&&◌, if◌then◌else◌, is_none, List, length, Option, Some, None, []}
use Rattle.sn_session.specs.declared.presence.Presence.{Presence as State}
use Rattle.sn_session.specs.declared.presence.Presence.TheVariants.{Active, Asleep, Awake, Disconnected, Lost}
use Rattle.sn_session.specs.declared.session.Session.{Session}
use Rattle.sn_session.specs.declared.change.SessionOp.TheVariants.{Take, Presence}
use Rattle.sn_frame.specs.declared.frame.Frame.TheVariants as frames
use Rattle.rep_op.specs.declared.op.Put.{Put}
use Rattle.rep_model.specs.declared.view.ClientView.{ClientView}
use Rattle.sn_local.specs.declared.config.Addr.{Addr}
use Rattle.sn_plan.specs.declared.row.Row.{Row}
use Rattle.sn_plan.specs.declared.row.Follow.TheVariants as follows
use Rattle.sn_plan.specs.Drafts.{Drafted, nothing, changed, sent}
use Rattle.sn_local.specs.Seen.{Seen}
use Rattle.sn_local.specs.Bindings.{client_at, is_stamp_of}
use Rattle.sn_local.specs.Locals.{Local}
use Rattle.sn_plan.specs.Bound.{bound_to}
use Rattle.sn_plan.specs.Rows.{row_of, row_with_timer, turned_away}
use Rattle.sn_exchange.specs.Exchanges.{open_exchange}

-- the client is claimed: if another gateway owns it, it is taken over with the session as it is
abbrev pub claimed : ℕ → ClientView → Session → Drafted
claimed g v s = if is_stamp_of g v.stamp then nothing else changed (Take s) nothing

-- whether there is nothing for the client: no message waits, and no exchange is open
abbrev pub has_nothing : Session → List Put → Bool
has_nothing s pending = (length pending == 0) && is_none (open_exchange s [] pending)

-- and then PINGRESP
abbrev pub ping_answered : Addr → Drafted → Drafted
ping_answered a d = sent a frames.PingResp d

-- a client that is Asleep wakes, if there is something for it
abbrev pub from_sleep : Addr → List ℕ → Session → Bool → Drafted → Row
from_sleep a c s idle d =
    if idle then row_of follows.Nothing c (ping_answered a d)
    else row_of follows.Resend c (changed (Presence Awake s.duration) d)

-- a client that is Awake goes back to sleep, if there is nothing for it
abbrev pub from_wake : Addr → List ℕ → Session → Bool → Drafted → Row
from_wake a c s idle d =
    if idle then row_of follows.Nothing c (ping_answered a (changed (Presence Asleep s.duration) d))
    else row_of follows.Resend c d

-- By what the client is. One that is Active gets PINGRESP, and then what waits for it. One that is
-- Disconnected or Lost cannot wake, and is turned away.
abbrev pub woken_by : Addr → List ℕ → Session → Bool → Drafted → State → Row
woken_by a c s idle d Active = row_of follows.Delivery c (ping_answered a d)
woken_by a c s idle d Asleep = from_sleep a c s idle d
woken_by a c s idle d Awake = from_wake a c s idle d
woken_by a c s idle d Disconnected = turned_away a
woken_by a c s idle d Lost = turned_away a

-- the client wakes if it has a session; without one the address is turned away
abbrev pub woken_if : ℕ → Addr → List ℕ → ClientView → ℕ → Option Session → Row
woken_if g a c v now None = turned_away a
woken_if g a c v now (Some s) =
    woken_by a c s (has_nothing s v.pending) (bound_to a c now (claimed g v s)) s.presence

-- the client wakes at this address and gateway: it is claimed and bound
abbrev pub woken : ℕ → Seen → Addr → List ℕ → ℕ → Row
woken g seen a c now = woken_if g a c (seen.of c) now (seen.of c).session

-- PINGREQ without a client id: the bound client wakes; without one the address is turned away
abbrev pub wake_of : ℕ → Seen → Addr → Option (List ℕ) → ℕ → Row
wake_of g seen a None now = turned_away a
wake_of g seen a (Some c) now = row_with_timer (Some c) now (woken g seen a c now)

-- PINGREQ: with the id of a client it wakes that client; without, the one that is bound to the
-- address
abbrev pub wake : ℕ → Seen → Local → Addr → List ℕ → ℕ → Row
wake g seen local a c now =
    if length c == 0 then wake_of g seen a (client_at a local.bindings) now
    else row_with_timer (client_at a local.bindings) now (woken g seen a c now)
