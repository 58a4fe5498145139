-- Words of printed text.
use Rattle.std.specs.Prelude.{ℕ, ◌∷◌, List, [], ◌++◌, codes, Option, Some, None}
use Rattle.std.specs.Fmt.{decimal}

infixr 65 ◌▹◌
-- a text and then another
abbrev pub ◌▹◌ : List ℕ → List ℕ → List ℕ
a ▹ b = a ++ b

-- the end of a line
abbrev pub line_end : List ℕ
line_end = 10 ∷ []

-- what stands before each column but the first
abbrev pub tab : List ℕ
tab = 9 ∷ []

-- a column with a number, or with a dash for none
abbrev pub number_column : Option ℕ → List ℕ
number_column None = tab ▹ codes "-"
number_column (Some number) = tab ▹ decimal number
