-- When a journal is written anew, and how long a gateway waits that cannot write.
use Rattle.std.specs.Prelude.{ℕ, ◌+◌, ◌==◌, Bool, ◌&&◌, not, if◌then◌else◌, nat_le, nat_lt, Option, Some, None}
use Rattle.gw_main.specs.declared.growing.TheConstants.{LEAST_GROWTH, LONGEST_TRY}

-- whether a journal of so many octets has grown by so many that it is written anew
abbrev pub is_grown : ℕ → ℕ → Bool
is_grown base growth = nat_lt base growth && nat_lt LEAST_GROWTH growth

-- the length of the file that changed; if that is not one of them, the greater length
abbrev pub changed_length : ℕ × ℕ → ℕ × ℕ → ℕ
changed_length before after =
    if (before.0 == after.0) && not (before.1 == after.1) then after.1
    else (if (before.1 == after.1) && not (before.0 == after.0) then after.0
    else (if nat_lt after.0 after.1 then after.1 else after.0))

-- the seconds until the next try: 1, and then twice the last ones, up to the most
abbrev pub next_try : ℕ → ℕ
next_try last =
    if last == 0 then 1
    else (if nat_le LONGEST_TRY (last + last) then LONGEST_TRY else last + last)

-- the wait after a shift in which a write failed: none after the first of them, and then a next try
abbrev pub wait_after : Option ℕ → ℕ
wait_after None = 0
wait_after (Some waited) = next_try waited

-- the wait after a shift; it is over once something was recorded and all of it went out
abbrev pub next_wait : Option ℕ → Bool → Bool → Option ℕ
next_wait last has_recorded has_failed =
    if has_failed then Some (wait_after last) else (if has_recorded then None else last)
