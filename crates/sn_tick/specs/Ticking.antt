-- Tick: what a gateway does as time goes by (MQTT-SN 1.2 sections 6.1, 6.3, 6.11 and 6.13).
use Rattle.std.specs.Prelude.{ℕ, Bool, true, ◌&&◌, if◌then◌else◌, nat_lt, nat_le, is_none, List, [], fold, length, Option, Some, None}
use Rattle.sn_topic.specs.Table.{Entries}
use Rattle.sn_session.specs.declared.presence.Presence.TheVariants.{Lost}
use Rattle.sn_session.specs.declared.session.Session.{Session}
use Rattle.sn_session.specs.declared.will.Will.{Will}
use Rattle.sn_session.specs.declared.change.SessionOp.TheVariants.{Presence}
use Rattle.sn_frame.specs.declared.frame.Frame.TheVariants as frames
use Rattle.rep_model.specs.declared.view.ClientView.{ClientView}
use Rattle.sn_local.specs.declared.config.Addr.{Addr}
use Rattle.sn_plan.specs.declared.draft.NewPut.{NewPut}
use Rattle.sn_plan.specs.declared.draft.Posted.{Posted}
use Rattle.sn_local.specs.declared.local.Timer.{Timer}
use Rattle.sn_local.specs.declared.local.WillDialog.{WillDialog}
use Rattle.sn_local.specs.declared.local.LocalChange.TheVariants.{Unbind, Heard, Retried, EndDialog, Advertised}
use Rattle.sn_plan.specs.declared.plan.Plan.{Plan}
use Rattle.sn_plan.specs.declared.row.Row.{Row}
use Rattle.sn_plan.specs.Drafts.{Drafted, nothing, changed, put_all, retain_if, lasting, sent, moved}
use Rattle.sn_local.specs.Seen.{Seen}
use Rattle.sn_plan.specs.Plans.{plan_of, plan_without}
use Rattle.sn_local.specs.Bindings.{is_stamp_of}
use Rattle.sn_local.specs.Timers.{timer_of}
use Rattle.sn_local.specs.Locals.{Local}
use Rattle.sn_local.specs.Lifetimes.{expires_at}
use Rattle.sn_plan.specs.Bound.{session_of}
use Rattle.sn_plan.specs.Others.{can_wake}
use Rattle.sn_plan.specs.Rows.{row_of}
use Rattle.sn_plan.specs.declared.row.Follow.TheVariants as follows
use Rattle.sn_tick.specs.declared.ticking.TheConstants.{DIALOG_SECONDS}
use Rattle.sn_tick.specs.declared.due.Due.{Due}
use Rattle.sn_tick.specs.declared.due.Due.TheVariants.{Expiry, Loss, Retry, Delivery}
use Rattle.sn_publish.specs.Recipients.{puts_of_will}
use Rattle.sn_publish.specs.Retaining.{retained_of_will}
use Rattle.sn_exchange.specs.Following.{deliver_next}
use Rattle.sn_tick.specs.Expiry.{expire_all}
use Rattle.sn_tick.specs.Due.{elapsed, first_due}

-- the CONNECT of a will dialog is a minute ago
abbrev pub is_old : ℕ → WillDialog → Bool
is_old now dialog = nat_le DIALOG_SECONDS (elapsed now dialog.begun)

-- and then no dialog at this address, if it is so old
abbrev pub dialog_ended : ℕ → Drafted → WillDialog → Drafted
dialog_ended now d dialog =
    if is_old now dialog then moved (EndDialog dialog.request.address) d else d

-- and then none of these dialogs that is so old
abbrev pub dialogs_ended : ℕ → List WillDialog → Drafted → Drafted
dialogs_ended now dialogs d = fold (dialog_ended now) d dialogs

-- whether a client needs a timer: the gateway owns it, it is Active, Asleep or Awake, and it has
-- none
abbrev pub needs_timer : ℕ → List Timer → List ℕ → ClientView → Bool
needs_timer g timers c v =
    is_stamp_of g v.stamp && can_wake v.session && is_none (timer_of c timers)

-- and then a timer for the client from this moment on, if it needs one
abbrev pub timer_begun : ℕ → Seen → List Timer → ℕ → Drafted → List ℕ → Drafted
timer_begun g seen timers now d c =
    if needs_timer g timers c (seen.of c) then moved (Heard c now) d else d

-- and then a timer for each of these clients that needs one
abbrev pub timers_begun : ℕ → Seen → List Timer → ℕ → List (List ℕ) → Drafted → Drafted
timers_begun g seen timers now clients d = fold (timer_begun g seen timers now) d clients

-- what every tick does first: will dialogs of a minute end, and clients without a timer get one
abbrev pub begin_tick : ℕ → Seen → Local → ℕ → Drafted
begin_tick g seen local now =
    timers_begun g seen local.timers now seen.all (dialogs_ended now local.dialogs nothing)

-- whether the last ADVERTISE is at least `advertise` seconds ago, or there was none
abbrev pub is_long_ago : ℕ → ℕ → Option ℕ → Bool
is_long_ago advertise now None = true
is_long_ago advertise now (Some last) = nat_le advertise (elapsed now last)

-- whether the gateway is to advertise itself
abbrev pub may_advertise : ℕ → List Addr → ℕ → Option ℕ → Bool
may_advertise advertise field now last =
    nat_lt 0 advertise && nat_lt 0 (length field) && is_long_ago advertise now last

-- and then ADVERTISE to the address: the gateway's number and the seconds between two (6.1)
abbrev pub advertised_to : ℕ → ℕ → Drafted → Addr → Drafted
advertised_to g advertise d a = sent a (frames.Advertise g advertise) d

-- and then ADVERTISE to each address of the field
abbrev pub advertised : ℕ → ℕ → List Addr → ℕ → Drafted → Drafted
advertised g advertise field now d =
    moved (Advertised now) (fold (advertised_to g advertise) d field)

-- the messages of the will of a client, if it has one
abbrev pub will_puts : Seen → List ℕ → Option Will → List NewPut
will_puts seen c None = []
will_puts seen c (Some will) = puts_of_will seen c will

-- what is retained of the will of a client, if it has one
abbrev pub will_retained : Seen → Option Will → Option Posted
will_retained seen None = None
will_retained seen (Some will) = retained_of_will seen will

-- and then the will is published: a message for each recipient; and it is retained, if it asks for
-- that
abbrev pub published : Seen → List ℕ → Option Will → Drafted → Drafted
published seen c will d = retain_if (will_retained seen will) (put_all (will_puts seen c will) d)

-- and then the client is lost: its will is published, and it no longer has an address
abbrev pub lost : Seen → List ℕ → Session → Drafted → Drafted
lost seen c s d =
    moved (Unbind c) (changed (Presence Lost s.duration) (published seen c s.will d))

-- one try more: Resend, if an exchange is open, else Delivery
abbrev pub retry_row : ℕ → Drafted → List ℕ → Row
retry_row now d c = row_of follows.Resend c (moved (Retried c now) d)

-- the plan of what is due with a client: what expires of it is acknowledged, and nothing is sent;
-- or it is lost; or there is one try more, and Resend; or Delivery
abbrev pub plan_due : ℕ → Entries → Seen → Local → ℕ → Drafted → List ℕ → Due → Option Plan
plan_due g predefined seen local now d c Expiry = plan_of g c seen (expire_all seen local now c d)
plan_due g predefined seen local now d c Loss =
    plan_of g c seen (lost seen c (session_of seen c) d)
plan_due g predefined seen local now d c (Retry a) =
    deliver_next g predefined seen a now (retry_row now d c)
plan_due g predefined seen local now d c (Delivery a) =
    deliver_next g predefined seen a now (row_of follows.Delivery c d)

-- the plan of what is due with the client that was found; without one, of what every tick does
abbrev pub plan_if_due : ℕ → Entries → Seen → Local → ℕ → Drafted → Option (List ℕ × Due)
    → Option Plan
plan_if_due g predefined seen local now d None = Some (plan_without d)
plan_if_due g predefined seen local now d (Some found) =
    plan_due g predefined seen local now d found.0 found.1

-- one thing a tick: ADVERTISE; else what is due with the least client that is due; else nothing
abbrev pub plan_one_thing : ℕ → ℕ → List Addr → Entries → Seen → Local → ℕ → Drafted → Option Plan
plan_one_thing g advertise field predefined seen local now d =
    if may_advertise advertise field now local.advertised
    then Some (plan_without (advertised g advertise field now d))
    else plan_if_due g predefined seen local now d (first_due g seen local now seen.all)

-- the plan of a tick: what every tick does, and one thing. Each message that it makes has the
-- moment at which the lifetime is over, if there is one.
abbrev pub tick : ℕ → ℕ → ℕ → List Addr → Entries → Seen → Local → ℕ → Option Plan
tick g lifetime advertise field predefined seen local now =
    plan_one_thing g advertise field predefined seen local now
    (lasting (expires_at lifetime now) (begin_tick g seen local now))
