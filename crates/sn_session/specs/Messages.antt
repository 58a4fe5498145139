-- What is published.
use Rattle.std.specs.Prelude.{ℕ, Bool, nat_lt, List, length}
use Rattle.sn_session.specs.declared.message.TheConstants.{MAX_MESSAGE}

-- whether octets are more than a message may have, 4,096
abbrev pub is_too_long : List ℕ → Bool
is_too_long octets = nat_lt MAX_MESSAGE (length octets)
