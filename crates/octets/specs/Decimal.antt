-- Numbers in decimal digits.
use Rattle.std.specs.Prelude.{◌≡◌, ℕ, ◌+◌, ◌-◌, ◌*◌, ◌^◌, ◌<◌, List, [], ◌∷◌, length, IsTrue}
use Rattle.std.specs.Str.{all_ascii_digits}

-- one digit or more, and nothing else
abbrev pub IsDigits : List ℕ → Type 0
IsDigits text = (0 < length text) × IsTrue (all_ascii_digits text)

-- what the digits write: each counts by its place
abbrev pub value_of : List ℕ → ℕ
value_of [] = 0
value_of (digit ∷ rest) = (digit - 48) * 10 ^ length rest + value_of rest

-- the text writes the number, and so many bits hold it
abbrev pub IsNumber : ℕ → List ℕ → ℕ → Type 0
IsNumber bits text number = IsDigits text × (value_of text ≡ number) × (number < 2 ^ bits)
