-- When a client was last heard of, and when a frame of its open exchange was last sent, how often
-- again.
use Rattle.std.specs.Prelude.{ℕ, ◌+◌, ◌==◌, Bool, IsTrue, if◌then◌else◌, List, [], ◌∷◌, filter, fold, Option, Some, None}
use Rattle.std.specs.declared.cmp.Ordering.{Ordering}
use Rattle.sn_tables.specs.Tables.{is_ascending, with_entry}
use Rattle.rep_op.specs.Orders.{client_cmp}
use Rattle.rep_op.specs.Sets.{same_client}
use Rattle.sn_local.specs.declared.local.Timer.{Timer}
use Rattle.sn_local.specs.declared.local.LocalChange.{LocalChange}
use Rattle.sn_local.specs.declared.local.LocalChange.TheVariants.{Time, Heard, Sent, Resent, Retried}
use Rattle.sn_local.specs.Seen.{Seen}
use Rattle.sn_local.specs.Bindings.{is_owned}

-- timers are in the order of their clients
abbrev pub timer_cmp : Timer → Timer → Ordering
timer_cmp a b = client_cmp a.client b.client

-- the timers strictly ascend by client
abbrev pub AreTimers : List Timer → Type 0
AreTimers timers = IsTrue (is_ascending timer_cmp timers)

-- the timers with this one, which replaces any other of its client
abbrev pub timed : Timer → List Timer → List Timer
timed timer timers = with_entry timer_cmp timer timers

-- the timer of a client
abbrev pub timer_of : List ℕ → List Timer → Option Timer
timer_of c [] = None
timer_of c (timer ∷ rest) = if same_client timer.client c then Some timer else timer_of c rest

-- one try more; a timer counts to 255
abbrev pub one_try_more : ℕ → ℕ
one_try_more tries = if tries == 255 then 255 else tries + 1

-- a timer that begins at this moment
abbrev pub started : List ℕ → ℕ → Timer
started c now = record { client = c; heard = now; sent = now; tries = 0 }

-- the timer of a client that is heard of at this moment
abbrev pub heard_at : List ℕ → ℕ → Option Timer → Timer
heard_at c now None = started c now
heard_at c now (Some timer) =
    record { client = c; heard = now; sent = timer.sent; tries = timer.tries }

-- the timer of a client to which a new frame is sent at this moment
abbrev pub sent_at : List ℕ → ℕ → Option Timer → Timer
sent_at c now None = started c now
sent_at c now (Some timer) = record { client = c; heard = timer.heard; sent = now; tries = 0 }

-- the timer of a client whose frame is sent again at this moment
abbrev pub resent_at : List ℕ → ℕ → Option Timer → Timer
resent_at c now None = started c now
resent_at c now (Some timer) =
    record { client = c; heard = timer.heard; sent = now; tries = timer.tries }

-- the timer of a client with which there was one more try
abbrev pub retried_at : List ℕ → ℕ → Option Timer → Timer
retried_at c now None = started c now
retried_at c now (Some timer) =
    record { client = c; heard = timer.heard; sent = timer.sent; tries = one_try_more timer.tries }

-- the client was heard of at this moment
abbrev pub heard : List ℕ → ℕ → List Timer → List Timer
heard c now timers = timed (heard_at c now (timer_of c timers)) timers

-- a first frame of an exchange was sent to the client at this moment
abbrev pub sent_anew : List ℕ → ℕ → List Timer → List Timer
sent_anew c now timers = timed (sent_at c now (timer_of c timers)) timers

-- a frame of the open exchange was sent to the client again at this moment
abbrev pub sent_again : List ℕ → ℕ → List Timer → List Timer
sent_again c now timers = timed (resent_at c now (timer_of c timers)) timers

-- there was one more try with the client at this moment
abbrev pub tried_again : List ℕ → ℕ → List Timer → List Timer
tried_again c now timers = timed (retried_at c now (timer_of c timers)) timers

-- the timers after this change; bindings, will dialogs and ADVERTISE leave them as they are
abbrev pub timer_change : List Timer → LocalChange → List Timer
timer_change timers (Time timer) = timed timer timers
timer_change timers (Heard c now) = heard c now timers
timer_change timers (Sent c now) = sent_anew c now timers
timer_change timers (Resent c now) = sent_again c now timers
timer_change timers (Retried c now) = tried_again c now timers
timer_change timers change = timers

-- the timers after these changes
abbrev pub timers_after : List Timer → List LocalChange → List Timer
timers_after timers changes = fold timer_change timers changes

-- whether the gateway owns the client of the timer
abbrev pub times_owned : ℕ → Seen → Timer → Bool
times_owned g seen timer = is_owned g seen timer.client

-- the timers of the clients that the gateway owns
abbrev pub owned_timers : ℕ → Seen → List Timer → List Timer
owned_timers g seen timers = filter (times_owned g seen) timers
