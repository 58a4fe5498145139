-- How often a message is to arrive.
use Rattle.std.specs.Prelude.{ℕ, Bool, nat_le}

-- the quality of service is 0 to 2
abbrev pub is_qos : ℕ → Bool
is_qos qos = nat_le qos 2
