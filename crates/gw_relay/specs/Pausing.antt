-- How long is waited for something, and between two things that cost.
use Rattle.std.specs.Prelude.{ℕ, ◌+◌, ◌-◌, ◌==◌, Bool, false, ◌&&◌, ◌||◌, if◌then◌else◌, nat_le, nat_lt, Option, Some, None}
use Rattle.gw_relay.specs.declared.pausing.TheConstants.{ANSWER_PAUSE, QUIET_TIME, GONE_TIME, LONGEST_PAUSE, LINE_PAUSE, LONGEST_LISTENING, QUIET_MOMENT, LONGEST_BACKLOG}

-- whether no tick is made in a second, since what clients sent was not read to its end: the queue
-- has been full since another one, and the longest wait for that is not over
abbrev pub is_behind : Option ℕ → ℕ → Bool
is_behind None second = false
is_behind (Some since) second = nat_lt (second - since) LONGEST_BACKLOG

-- whether a digest may be answered in a second, after one that was answered before
abbrev pub may_answer : ℕ → ℕ → Bool
may_answer last second = nat_le ANSWER_PAUSE (second - last)

-- whether a gateway that last spoke in a second is to say its number again
abbrev pub is_quiet : ℕ → ℕ → Bool
is_quiet last second = nat_le QUIET_TIME (second - last)

-- whether the link of a gateway is given up that was last heard in a second
abbrev pub is_gone : ℕ → ℕ → Bool
is_gone last second = nat_le GONE_TIME (second - last)

-- the pause after a link that ended: none if its other end had said its number, and else twice the
-- last one and a second, up to the longest
abbrev pub next_pause : ℕ → Bool → ℕ
next_pause last has_spoken =
    if has_spoken then 0
    else (if nat_le LONGEST_PAUSE (last + last + 1) then LONGEST_PAUSE else last + last + 1)

-- whether a link ends an older one: both were accepted, and say one number
abbrev pub replaces : Bool → ℕ → Bool → ℕ → Bool
replaces is_accepted number older_is_accepted older =
    is_accepted && older_is_accepted && (number == older)

-- whether a trouble is to be told: it has happened since it was last told, a pause before
abbrev pub is_to_tell : ℕ → ℕ → Option ℕ → ℕ → Bool
is_to_tell count told None second = nat_lt told count
is_to_tell count told (Some last) second = nat_lt told count && nat_le LINE_PAUSE (second - last)

-- whether a gateway that was started may serve: each peer has asked, and it is quiet; or it has
-- listened long enough
abbrev pub may_serve : ℕ → ℕ → ℕ → ℕ → Bool
may_serve peers asked quiet listened =
    nat_le LONGEST_LISTENING listened || (nat_le peers asked && nat_le QUIET_MOMENT quiet)
