-- The clock of a field, which stands still while its gateway does. Its times are milliseconds;
-- moments and dates are seconds since 1970.
use Rattle.std.specs.Prelude.{ℕ, ◌+◌, ◌-◌, Bool, ◌||◌, if◌then◌else◌, nat_le, nat_lt}
use Rattle.gw_wire.specs.declared.clock.TheConstants.{FIRST_DATE, LARGEST_DRIFT, LONGEST_BREATH}
use Rattle.gw_wire.specs.declared.clock.Look.{Look}

-- whether the gateway stood still between a look and a moment of the machine's clock
abbrev pub stood_still : Look → ℕ → Bool
stood_still last at = nat_lt LONGEST_BREATH (at - last.at)

-- how much was lost by then: what lies between, too, if it stood still
abbrev pub lost_by : Look → ℕ → ℕ
lost_by last at = if stood_still last at then last.lost + (at - last.at) else last.lost

-- what a look finds after another one; the machine's clock does not go back
abbrev pub look_after : Look → ℕ → Look
look_after last at =
    if nat_le at last.at then last else record { at = at; lost = lost_by last at }

-- whether the moment and the date are too far apart
abbrev pub is_astray : ℕ → ℕ → Bool
is_astray moment date = nat_lt LARGEST_DRIFT (moment - date) || nat_lt LARGEST_DRIFT (date - moment)

-- whether a date was set: it is none before the year 2026
abbrev pub is_date : ℕ → Bool
is_date date = nat_le FIRST_DATE date
