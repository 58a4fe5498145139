-- How many messages of a gateway are known for a client.
use Rattle.std.specs.Prelude.{ℕ, ◌-◌, ◌^◌, List, Option, Some, None}
use Rattle.rep_op.specs.declared.op.Op.{Op}
use Rattle.rep_model.specs.Fresh.{next_seq}

-- how many numbers are below the next one, which begins with 1; all that fit eight octets, after
-- the last
abbrev pub known_below : Option ℕ → ℕ
known_below None = 2 ^ 64 - 1
known_below (Some number) = number - 1

-- how many messages a gateway has put for a client, as far as this set says: the greatest number of
-- its puts and acknowledgements
abbrev pub messages_known : List ℕ → ℕ → List Op → ℕ
messages_known c origin S = known_below (next_seq c origin S)
