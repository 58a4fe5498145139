-- Steps from one operation to the next.
use Rattle.std.specs.Prelude.{ℕ, ◌-◌, ◌^◌, min, Bool, not, ◌&&◌, Option}
use Rattle.rep_op.specs.declared.op.Stamp.{Stamp}
use Rattle.rep_model.specs.Keep.{is_below}
use Rattle.rep_model.specs.Limits.{is_in_prefix}

-- a count as eight octets have it
abbrev pub capped : ℕ → ℕ
capped n = min n (2 ^ 64 - 1)

-- whether a session operation of that name waits for earlier ones
abbrev pub waits : Option Stamp → ℕ → Stamp × ℕ → Bool
waits seen prefix name = not (is_below name.0 seen) && not (is_in_prefix seen prefix name)
