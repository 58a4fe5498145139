-- Which operations and changes leave the gateway whom it knows.
use Rattle.std.specs.Prelude.{ℕ, Bool, true, ◌&&◌, ◌||◌, ◌==◌, not, List, is_none}
use Rattle.rep_op.specs.declared.op.Op.{Op}
use Rattle.rep_op.specs.declared.op.Op.TheVariants.{Session as OfSession}
use Rattle.sn_local.specs.declared.local.LocalChange.{LocalChange}
use Rattle.sn_local.specs.declared.local.LocalChange.TheVariants.{Bind, Time, Heard, Sent, Resent, Retried}
use Rattle.sn_local.specs.Seen.{Seen, seen_of}
use Rattle.sn_local.specs.Locals.{Local}
use Rattle.sn_local.specs.Bindings.{address_of, is_owned}
use Rattle.sn_local.specs.Timers.{timer_of}
use Rattle.gw_own.specs.Tidy.{are_owned}

-- whether the gateway owns each client with an address or a timer, if that is known
abbrev pub tidied : Bool → ℕ → List Op → Local → Bool
tidied known g kept local = not known || are_owned g (seen_of kept) local

-- whether the client has neither an address nor a timer
abbrev pub is_stranger : List ℕ → Local → Bool
is_stranger c local = is_none (address_of c local.bindings) && is_none (timer_of c local.timers)

-- whether the gateway owns the client, or knows nothing of it
abbrev pub stays_bound : ℕ → Seen → Local → List ℕ → Bool
stays_bound g seen local c = is_owned g seen c || is_stranger c local

-- Whether the operation leaves the gateway each client whose address or timer it knows. So does all
-- but a Take, and a Take of a client that the gateway owns, or of a stranger.
abbrev pub leaves_all : ℕ → Seen → Local → Op → Bool
leaves_all g seen local (OfSession c stamp counter change) =
    not (counter == 0) || stays_bound g seen local c
leaves_all g seen local op = true

-- whether an address or a timer that the change notes is of a client that the gateway owns
abbrev pub notes_owned : ℕ → Seen → LocalChange → Bool
notes_owned g seen (Bind a c) = is_owned g seen c
notes_owned g seen (Time timer) = is_owned g seen timer.client
notes_owned g seen (Heard c now) = is_owned g seen c
notes_owned g seen (Sent c now) = is_owned g seen c
notes_owned g seen (Resent c now) = is_owned g seen c
notes_owned g seen (Retried c now) = is_owned g seen c
notes_owned g seen change = true
