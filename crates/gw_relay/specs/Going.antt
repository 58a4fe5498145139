-- To whom a delta goes on.
use Rattle.std.specs.Prelude.{ℕ, ◌==◌, Bool, ◌&&◌, ◌||◌, not, List, length}
use Rattle.std.specs.List.{list_any}

-- whether a gateway is among others
abbrev pub is_among : ℕ → List ℕ → Bool
is_among gateway others = list_any (λ other. other == gateway) others

-- whether what one gateway told goes on to another, which is linked with those: it is another one,
-- and has no link with the first
abbrev pub goes_on : ℕ → ℕ → List ℕ → Bool
goes_on giver other linked = not (giver == other) && not (is_among giver linked)

-- whether a gateway may be linked, where these may: all, if none is named
abbrev pub may_link : List ℕ → ℕ → Bool
may_link numbers number = (length numbers == 0) || is_among number numbers
