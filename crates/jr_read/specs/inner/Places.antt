-- The places of records in their slot, and what an opening says of two slots.
use Rattle.std.specs.Prelude.{◌≡◌, ℕ, ◌==◌, Bool, if◌then◌else◌, List, [], ◌∷◌}
use Rattle.rep_op.specs.declared.op.Op.{Op}
use Rattle.jr_journal.specs.Records.{found}

-- these are the records from here on, a seal being still to come or not
abbrev pub Holds : List ℕ → List (List Op) → Type 0
Holds bytes deltas = (sealed : Bool) × ((found 0 sealed bytes).deltas ≡ deltas)

-- what comes after a seal, if there is one in front
abbrev pub after_seal : List ℕ → List ℕ
after_seal [] = []
after_seal (b ∷ rest) = if b == 83 then rest else b ∷ rest
