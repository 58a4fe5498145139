-- How long messages wait. Moments and lifetimes are in seconds.
use Rattle.std.specs.Prelude.{ℕ, ◌+◌, ◌^◌, ◌==◌, if◌then◌else◌, nat_lt, Option, Some, None, unwrap_or}

-- the moment so long after this one, if it fits eight octets
abbrev pub moment_after : ℕ → ℕ → Option ℕ
moment_after now lifetime =
    if nat_lt (now + lifetime) (2 ^ 64) then Some (now + lifetime) else None

-- the moment from which on a message that is made now need not wait; 0 for none, without a lifetime
-- and if the moment does not fit eight octets
abbrev pub expires_at : ℕ → ℕ → ℕ
expires_at lifetime now = if lifetime == 0 then 0 else unwrap_or (moment_after now lifetime) 0
