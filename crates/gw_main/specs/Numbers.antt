-- Numbers in decimal digits, as a test.
use Rattle.std.specs.Prelude.{ℕ, ◌^◌, ◌&&◌, nat_lt, Bool, List, length, Option, Some, None, if◌then◌else◌}
use Rattle.std.specs.Str.{all_ascii_digits}
use Rattle.octets.specs.Decimal.{value_of}

-- the text writes a number, and so many bits hold it
abbrev pub is_number : ℕ → List ℕ → Bool
is_number bits text =
    nat_lt 0 (length text) && all_ascii_digits text && nat_lt (value_of text) (2 ^ bits)

-- the number that the text writes, if so many bits hold it
abbrev pub number_of : ℕ → List ℕ → Option ℕ
number_of bits text = if is_number bits text then Some (value_of text) else None
