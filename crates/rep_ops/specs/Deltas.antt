-- What a delta is: operations in the order of their names.
use Rattle.std.specs.Prelude.{◌≡◌, ◌+◌, ◌<◌, List, [], ◌∷◌, IsTrue}
use Rattle.std.specs.List.{AllByRecursion}
use Rattle.std.specs.declared.cmp.Ordering.TheVariants.{Less}
use Rattle.rep_op.specs.declared.op.Op.{Op}
use Rattle.rep_op.specs.declared.op.Op.TheVariants.{Ack}
use Rattle.rep_op.specs.Orders.{name_cmp}
use Rattle.rep_op.specs.WellMade.{is_well_made}

-- ranges of acknowledgements of one client and origin neither overlap nor touch
abbrev pub IsApart : Op → Op → Type 0
IsApart (Ack c origin first last) (Ack d other start end) =
    c ≡ d → origin ≡ other → last + 1 < start
IsApart a b = Unit {0}

-- one operation may be right before the other: its name is less, and their ranges are apart
abbrev pub IsBefore : Op → Op → Type 0
IsBefore a b = (name_cmp a b ≡ Less) × IsApart a b

-- each operation may be right before the next
abbrev pub IsAscending : List Op → Type 0
IsAscending [] = Unit {0}
IsAscending (a ∷ []) = Unit {0}
IsAscending (a ∷ b ∷ rest) = IsBefore a b × IsAscending (b ∷ rest)

-- well made operations in the order of their names
pub record IsDelta (ops : List Op) : Type 0 where
  pub well_made : AllByRecursion (λ op. IsTrue (is_well_made op)) ops
  pub ascending : IsAscending ops
