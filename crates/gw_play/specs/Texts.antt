-- Words of printed text.
use Rattle.std.specs.Prelude.{ℕ, ◌∷◌, List, [], ◌++◌, codes}
use Rattle.hex.specs.Hex.{encode_lower}

infixr 65 ◌▹◌
-- a text and then another
abbrev pub ◌▹◌ : List ℕ → List ℕ → List ℕ
a ▹ b = a ++ b

-- octets in lower-case hexadecimal digits, a dash for none
abbrev pub hex_text : List ℕ → List ℕ
hex_text [] = codes "-"
hex_text (octet ∷ rest) = encode_lower (octet ∷ rest)

-- the end of a line
abbrev pub line_end : List ℕ
line_end = 10 ∷ []
