-- What time asks for: which client is due, and for what (MQTT-SN 1.2 sections 6.11, 6.13 and 6.14).
-- A message that need not wait any more is due as well.
-- Moments and durations are in seconds.
use Rattle.std.specs.Prelude.{ℕ, ◌+◌, ◌-◌, ◌*◌, ◌/◌, Bool, false, ◌&&◌, ◌||◌, if◌then◌else◌, nat_lt, nat_le, List, [], ◌∷◌, length, Option, Some, None}
use Rattle.sn_session.specs.declared.session.Session.{Session}
use Rattle.sn_session.specs.declared.outbound.Outbound.{Outbound}
use Rattle.rep_op.specs.declared.op.Put.{Put}
use Rattle.rep_model.specs.declared.view.ClientView.{ClientView}
use Rattle.sn_local.specs.declared.config.Addr.{Addr}
use Rattle.sn_local.specs.declared.local.Timer.{Timer}
use Rattle.sn_local.specs.Seen.{Seen}
use Rattle.sn_local.specs.Bindings.{address_of, is_stamp_of}
use Rattle.sn_local.specs.Timers.{timer_of}
use Rattle.sn_local.specs.Locals.{Local}
use Rattle.sn_plan.specs.Others.{is_up}
use Rattle.sn_tick.specs.declared.due.TheConstants.{RETRY_AFTER, MAX_TRIES}
use Rattle.sn_tick.specs.declared.due.Due.{Due}
use Rattle.sn_tick.specs.declared.due.Due.TheVariants.{Expiry, Loss, Retry, Delivery}
use Rattle.sn_exchange.specs.Exchanges.{open_exchange, is_served, is_awake}
use Rattle.sn_tick.specs.Expiry.{has_expired}

-- how long a moment is ago, in seconds; 0 if the clock went back to before it
abbrev pub elapsed : ℕ → ℕ → ℕ
elapsed now since = now - since

-- three halves of the duration, rounded up
abbrev pub patience : ℕ → ℕ
patience duration = (3 * duration + 1) / 2

-- whether nothing was heard for one and a half times the duration; never so if the duration is 0
abbrev pub is_silent : ℕ → Session → Timer → Bool
is_silent now s timer =
    nat_lt 0 s.duration && nat_le (patience s.duration) (elapsed now timer.heard)

-- whether nothing was heard for too long of a client that is Active, Asleep or Awake
abbrev pub is_overdue : ℕ → Session → Option Timer → Bool
is_overdue now s None = false
is_overdue now s (Some timer) = is_up s.presence && is_silent now s timer

-- a frame that is not answered for 10 seconds is sent again, four times; then the client is lost
abbrev pub due_again : ℕ → Addr → Timer → Option Due
due_again now a timer =
    if nat_le RETRY_AFTER (elapsed now timer.sent)
    then (if nat_le MAX_TRIES timer.tries then Some Loss else Some (Retry a)) else None

-- what is due with an open exchange: its frame again, or the loss of the client
abbrev pub due_exchange : ℕ → Addr → Option Timer → Option Due
due_exchange now a None = None
due_exchange now a (Some timer) = due_again now a timer

-- without an open exchange Delivery is due if messages wait, or the client is Awake
abbrev pub due_delivery : Session → List Put → Addr → Option Due
due_delivery s pending a =
    if is_awake s.presence || nat_lt 0 (length pending) then Some (Delivery a) else None

-- what is due with a client that is Active or Awake, with or without an open exchange
abbrev pub due_by : ℕ → Session → List Put → Addr → Option Timer → Option Outbound → Option Due
due_by now s pending a timer None = due_delivery s pending a
due_by now s pending a timer (Some x) = due_exchange now a timer

-- at its address a client is due only while it is Active or Awake
abbrev pub due_at : ℕ → Session → List Put → Option Timer → Option Addr → Option Due
due_at now s pending timer None = None
due_at now s pending timer (Some a) =
    if is_served s.presence then due_by now s pending a timer (open_exchange s [] pending) else None

-- what is due by the session: its loss, if it is overdue, else what is due at its address
abbrev pub due_session : ℕ → List Put → Option Timer → Option Addr → Option Session → Option Due
due_session now pending timer a None = None
due_session now pending timer a (Some s) =
    if is_overdue now s timer then Some Loss else due_at now s pending timer a

-- an expiry goes before all that is due by the session
abbrev pub expiry_or_due : ℕ → List Put → Option Timer → Option Addr → Option Session → Option Due
expiry_or_due now pending timer a session =
    if has_expired now pending a session then Some Expiry
    else due_session now pending timer a session

-- what is due with a client by its view; nothing if another gateway owns it
abbrev pub due_view : ℕ → Local → ℕ → List ℕ → ClientView → Option Due
due_view g local now c v =
    if is_stamp_of g v.stamp
    then expiry_or_due now v.pending (timer_of c local.timers) (address_of c local.bindings)
    v.session
    else None

-- what is due with a client that the gateway owns: an expiry, its loss, one more try, or Delivery
abbrev pub due_with : ℕ → Seen → Local → ℕ → List ℕ → Option Due
due_with g seen local now c = due_view g local now c (seen.of c)

-- the client, if something is due with it, else the one that was found after it
abbrev pub or_later : Option (List ℕ × Due) → List ℕ → Option Due → Option (List ℕ × Due)
or_later later c None = later
or_later later c (Some reason) = Some (c, reason)

-- the first of these clients that is due, and for what
abbrev pub first_due : ℕ → Seen → Local → ℕ → List (List ℕ) → Option (List ℕ × Due)
first_due g seen local now [] = None
first_due g seen local now (c ∷ rest) =
    or_later (first_due g seen local now rest) c (due_with g seen local now c)
