-- What a writer leaves: the text after what was there, or, if memory ran out, at least what was
-- there.
use Rattle.std.specs.Prelude.{◌≡◌, ℕ, List, ◌++◌, length, take, Result, Ok, Err}
use Rattle.octets.specs.declared.memory.NoMemory.{NoMemory}

-- what was there is still in front
abbrev pub KeepsFront : List ℕ → List ℕ → Type 0
KeepsFront old new = take (length old) new ≡ old

-- the text was written after what was there; if memory ran out, what was there is still in front
abbrev pub Writes : {T : Type 0} → List ℕ → List ℕ → List ℕ → Result T NoMemory → Type 0
Writes text old new (Ok x) = new ≡ old ++ text
Writes text old new (Err want) = KeepsFront old new
