-- A row of the step table as a whole: its client, its draft, and what follows it.
use Rattle.std.specs.Prelude.{ℕ, List, Option, Some, None}
use Rattle.sn_frame.specs.declared.frame.Frame.TheVariants as frames
use Rattle.sn_local.specs.declared.config.Addr.{Addr}
use Rattle.sn_local.specs.declared.local.LocalChange.TheVariants.{Heard}
use Rattle.sn_plan.specs.declared.plan.Plan.{Plan}
use Rattle.sn_plan.specs.declared.row.Row.{Row}
use Rattle.sn_plan.specs.declared.row.Follow.{Follow}
use Rattle.sn_plan.specs.declared.row.Follow.TheVariants.{Nothing, Delivery}
use Rattle.sn_plan.specs.Drafts.{Drafted, nothing, lasting, sent, moved}
use Rattle.sn_local.specs.Seen.{Seen}
use Rattle.sn_plan.specs.Plans.{plan_of, plan_of_puts}
use Rattle.sn_plan.specs.Bound.{heard_of}

-- a row for the client c
abbrev pub row_of : Follow → List ℕ → Drafted → Row
row_of follow c d = record { client = Some c; draft = d; follow = follow }

-- a row for no client
abbrev pub row_of_none : Drafted → Row
row_of_none d = record { client = None; draft = d; follow = Nothing }

-- and each message that it makes need not wait from this moment on; 0 for none
abbrev pub row_lasting : ℕ → Row → Row
row_lasting moment row = record row { draft = lasting moment row.draft }

-- and then the client that is bound so far, if there is one, was heard of at this moment
abbrev pub row_with_timer : Option (List ℕ) → ℕ → Row → Row
row_with_timer bound now row = record row { draft = heard_of bound now row.draft }

-- a row of the bound client c, which was heard of; Delivery follows
abbrev pub served : List ℕ → ℕ → Drafted → Row
served c now d = row_with_timer (Some c) now (row_of Delivery c d)

-- the plan of a draft for the client; without one that of what is retained, its messages, frames
-- and local changes
abbrev pub plan_for : ℕ → Seen → Drafted → Option (List ℕ) → Option Plan
plan_for g seen d None = plan_of_puts g seen d
plan_for g seen d (Some c) = plan_of g c seen d

-- the plan of a row at the gateway g, without what follows it
abbrev pub plan_of_row : ℕ → Seen → Row → Option Plan
plan_of_row g seen row = plan_for g seen row.draft row.client

-- nothing is done
abbrev pub empty_row : Row
empty_row = row_of_none nothing

-- a frame that asks for a bound client, from an address without one: DISCONNECT is the answer
abbrev pub turned_away : Addr → Row
turned_away a = row_of_none (sent a (frames.Disconnect None) nothing)

-- a frame that nothing waits for: a bound client was heard of, another address is turned away
abbrev pub unexpected_row : Addr → Option (List ℕ) → ℕ → Row
unexpected_row a None now = turned_away a
unexpected_row a (Some c) now = row_of Delivery c (moved (Heard c now) nothing)
