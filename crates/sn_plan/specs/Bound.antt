-- What rows say of a client that is bound, or becomes so.
use Rattle.std.specs.Prelude.{ℕ, List, Option, Some, None, unwrap_or}
use Rattle.sn_session.specs.declared.session.Session.{Session}
use Rattle.sn_session.specs.Session.{empty_session}
use Rattle.sn_local.specs.declared.config.Addr.{Addr}
use Rattle.sn_local.specs.declared.local.LocalChange.TheVariants.{Bind, Time, Heard}
use Rattle.sn_plan.specs.Drafts.{Drafted, moved}
use Rattle.sn_local.specs.Seen.{Seen}
use Rattle.sn_local.specs.Timers.{started}

-- and then the address and the client belong together, and the client's timer begins at this moment
abbrev pub bound_to : Addr → List ℕ → ℕ → Drafted → Drafted
bound_to a c now d = moved (Time (started c now)) (moved (Bind a c) d)

-- and then the client, if there is one, was heard of at this moment
abbrev pub heard_of : Option (List ℕ) → ℕ → Drafted → Drafted
heard_of None now d = d
heard_of (Some c) now d = moved (Heard c now) d

-- the session as seen; if there is none, that of a client of which nothing is known
abbrev pub session_of : Seen → List ℕ → Session
session_of seen c = unwrap_or (seen.of c).session empty_session
