-- How many clients come in for the first time within a minute.
use Rattle.std.specs.Prelude.{ℕ, ◌-◌, Bool, if◌then◌else◌, nat_le, nat_lt}
use Rattle.gw_main.specs.declared.newcomers.TheConstants.{NEWCOMERS_SECONDS}

-- since when newcomers are counted in a second, and how many came in since then: they are counted
-- anew where a minute is over
abbrev pub counted_in : ℕ × ℕ → ℕ → ℕ × ℕ
counted_in counted second =
    if nat_le NEWCOMERS_SECONDS (second - counted.0) then (second, 0) else counted

-- whether one more comes in, after so many of at most so many
abbrev pub may_come : ℕ → ℕ → Bool
may_come count most = nat_lt count most
