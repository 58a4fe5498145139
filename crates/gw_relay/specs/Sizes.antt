-- How much is said at once, and kept.
use Rattle.std.specs.Prelude.{ℕ, Bool, ◌||◌, nat_le, nat_lt}
use Rattle.gw_relay.specs.declared.sizes.TheConstants.{PIECE, MOST_KEPT}

-- whether operations, so many, that are spelled in so many octets make one piece of an answer
abbrev pub fits : ℕ → ℕ → Bool
fits octets count = nat_le octets PIECE || nat_le count 1

-- whether a shift whose history keeps so many octets for links is to end
abbrev pub is_much : ℕ → Bool
is_much octets = nat_lt MOST_KEPT octets
