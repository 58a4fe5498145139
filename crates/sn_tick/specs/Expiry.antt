-- Which messages expire: those whose moment is there, but for the one that the client is in the
-- middle of; and none while one of them is far after one that stays. Moments are in seconds.
use Rattle.std.specs.Prelude.{ℕ, ◌-◌, ◌==◌, Bool, false, ◌&&◌, not, if◌then◌else◌, nat_le, List, [], fold, Option, Some, None}
use Rattle.std.specs.List.{list_any}
use Rattle.std.specs.Option.{option_map}
use Rattle.sn_session.specs.declared.session.Session.{Session}
use Rattle.rep_op.specs.declared.op.Put.{Put}
use Rattle.rep_op.specs.Orders.{name_of}
use Rattle.rep_model.specs.Moments.{is_past}
use Rattle.sn_local.specs.declared.config.Addr.{Addr}
use Rattle.sn_local.specs.Seen.{Seen}
use Rattle.sn_local.specs.Bindings.{address_of}
use Rattle.sn_local.specs.Locals.{Local}
use Rattle.sn_plan.specs.Drafts.{Drafted, acked}
use Rattle.sn_exchange.specs.Exchanges.{same_name, message_of, open_exchange, is_served}
use Rattle.sn_tick.specs.declared.expiry.TheConstants.{FAR}

-- the message of the open exchange of a client that is Active or Awake
abbrev pub under_way_in : List Put → Session → Option (ℕ × ℕ)
under_way_in pending s =
    if is_served s.presence then option_map message_of (open_exchange s [] pending) else None

-- the message that a client is in the middle of: that of its open exchange, if it has an address
-- and is Active or Awake
abbrev pub under_way : List Put → Option Addr → Option Session → Option (ℕ × ℕ)
under_way pending None session = None
under_way pending (Some a) None = None
under_way pending (Some a) (Some s) = under_way_in pending s

-- whether a message is the one of this name, if there is one
abbrev pub is_under_way : Option (ℕ × ℕ) → Put → Bool
is_under_way None put = false
is_under_way (Some name) put = same_name name (name_of put)

-- whether a message has expired: its moment is there, and the client is not in the middle of it
abbrev pub is_expired : ℕ → Option (ℕ × ℕ) → Put → Bool
is_expired now name put = is_past now put && not (is_under_way name put)

-- whether a message is 1,024 numbers or more after an earlier one of its origin
abbrev pub is_far_after : Put → Put → Bool
is_far_after first put = (first.origin == put.origin) && nat_le FAR (put.seq - first.seq)

-- whether a message stays, and one of these is far after it
abbrev pub is_left_behind : ℕ → Option (ℕ × ℕ) → List Put → Put → Bool
is_left_behind now name pending first =
    not (is_expired now name first) && list_any (is_far_after first) pending

-- whether one of these messages is far after one that stays
abbrev pub is_stretched : ℕ → Option (ℕ × ℕ) → List Put → Bool
is_stretched now name pending = list_any (is_left_behind now name pending) pending

-- whether messages expire, if the client is in the middle of the one of this name: one has expired,
-- and none is far after one that stays
abbrev pub any_expires : ℕ → Option (ℕ × ℕ) → List Put → Bool
any_expires now name pending =
    list_any (is_expired now name) pending && not (is_stretched now name pending)

-- whether messages of the client expire
abbrev pub has_expired : ℕ → List Put → Option Addr → Option Session → Bool
has_expired now pending a session = any_expires now (under_way pending a session) pending

-- and then the acknowledgement of a message, if it has expired
abbrev pub expiry_acked : ℕ → Option (ℕ × ℕ) → Drafted → Put → Drafted
expiry_acked now name d put = if is_expired now name put then acked (name_of put) d else d

-- and then the acknowledgements of those of these messages that have expired
abbrev pub expiries_acked : ℕ → Option (ℕ × ℕ) → List Put → Drafted → Drafted
expiries_acked now name pending d = fold (expiry_acked now name) d pending

-- and then the acknowledgements of all messages of the client that have expired
abbrev pub expire_all : Seen → Local → ℕ → List ℕ → Drafted → Drafted
expire_all seen local now c d =
    expiries_acked now
    (under_way (seen.of c).pending (address_of c local.bindings) (seen.of c).session)
    (seen.of c).pending d
