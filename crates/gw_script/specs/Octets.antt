-- Octets in hexadecimal digits.
use Rattle.std.specs.Prelude.{◌≡◌, ℕ, ◌⊎◌, ◌<◌, List, [], length, codes, Ok}
use Rattle.hex.specs.Hex.{decode_of}

-- the text writes the octets: two digits each, or a dash for none
abbrev pub IsHex : List ℕ → List ℕ → Type 0
IsHex text octets =
    ((text ≡ codes "-") × (octets ≡ [])) ⊎ ((0 < length text) × (decode_of text ≡ Ok octets))
