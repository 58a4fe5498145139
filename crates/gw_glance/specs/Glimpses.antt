-- A client at a glance.
use Rattle.std.specs.Prelude.{ℕ, List, [], ◌∷◌, length, Option, Some, None, if◌then◌else◌}
use Rattle.sn_session.specs.declared.outbound.Outbound.{Outbound}
use Rattle.sn_session.specs.declared.outbound.Phase.{Phase}
use Rattle.sn_session.specs.declared.session.Session.{Session}
use Rattle.rep_op.specs.declared.op.Put.{Put}
use Rattle.rep_op.specs.declared.op.Stamp.{Stamp}
use Rattle.rep_model.specs.declared.view.ClientView.{ClientView}
use Rattle.sn_local.specs.declared.config.Addr.{Addr}
use Rattle.sn_local.specs.declared.local.Timer.{Timer}
use Rattle.sn_local.specs.Locals.{Local}
use Rattle.sn_local.specs.Bindings.{address_of, is_stamp_of}
use Rattle.sn_local.specs.Timers.{timer_of}
use Rattle.gw_report.specs.declared.glimpse.First.{First}
use Rattle.gw_report.specs.declared.glimpse.Glimpse.{Glimpse}
use Rattle.gw_report.specs.declared.glimpse.LocalGlimpse.{LocalGlimpse}
use Rattle.gw_report.specs.declared.glimpse.SessionGlimpse.{SessionGlimpse}

-- how far an exchange is, if one has begun
abbrev pub phase_of : Option Outbound → Option Phase
phase_of None = None
phase_of (Some exchange) = Some exchange.phase

-- a session at a glance
abbrev pub session_glimpse : Session → SessionGlimpse
session_glimpse s =
    record {
      presence = s.presence;
      clean = s.clean;
      duration = s.duration;
      topics = length s.topics;
      subscriptions = length s.subscriptions;
      received = length s.received;
      exchange = phase_of s.outbound;
    }

-- a client's session at a glance, if it has one
abbrev pub session_at_glance : Option Session → Option SessionGlimpse
session_at_glance None = None
session_at_glance (Some s) = Some (session_glimpse s)

-- the name of the first message that waits
abbrev pub first_of : List Put → Option First
first_of [] = None
first_of (put ∷ rest) = Some (record { seq = put.seq; origin = put.origin })

-- an address and a timer, if both are known
abbrev pub local_with : Option Addr → Option Timer → Option LocalGlimpse
local_with None timer = None
local_with (Some address) None = None
local_with (Some address) (Some timer) =
    Some (record { address = address; heard = timer.heard; tries = timer.tries })

-- what a gateway alone knows of a client of this stamp; nothing if another one owns it
abbrev pub local_of : ℕ → Local → List ℕ → Option Stamp → Option LocalGlimpse
local_of g local c stamp =
    if is_stamp_of g stamp
    then local_with (address_of c local.bindings) (timer_of c local.timers) else None

-- a client of this view at a glance, as a gateway sees it: what its operations say, counted, and
-- what the gateway alone knows
abbrev pub glimpse_of : ℕ → Local → List ℕ → ClientView → Glimpse
glimpse_of g local c v =
    record {
      client = c;
      stamp = v.stamp;
      prefix = v.prefix;
      session = session_at_glance v.session;
      waiting = length v.pending;
      first = first_of v.pending;
      local = local_of g local c v.stamp;
    }
