-- While nothing can be sent. All times are milliseconds.
use Rattle.std.specs.Prelude.{ℕ, ◌-◌, Bool, nat_le, nat_lt}
use Rattle.gw_wire.specs.declared.outage.TheConstants.{LONGEST_OUTAGE, OUTAGE_LINE_PAUSE}

-- whether the clock stands still for an outage, by when that began
abbrev pub is_outage : ℕ → ℕ → Bool
is_outage began now = nat_lt (now - began) LONGEST_OUTAGE

-- whether an outage is to be told, by when it began or was told
abbrev pub is_long : ℕ → ℕ → Bool
is_long since now = nat_le OUTAGE_LINE_PAUSE (now - since)
