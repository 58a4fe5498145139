-- The greatest number of several messages.
use Rattle.std.specs.Prelude.{ℕ, max, List, fold}
use Rattle.rep_op.specs.declared.op.Put.{Put}

-- the greater one of a number and that of a message
abbrev pub greater_number : ℕ → Put → ℕ
greater_number greatest put = max put.seq greatest

-- the greatest of a number and those of these messages
abbrev pub greatest_from : ℕ → List Put → ℕ
greatest_from greatest pending = fold greater_number greatest pending
