-- Joining operations that are in the order of their names: of one name the first stays, and ranges
-- of acknowledgements that overlap or touch are one.
use Rattle.std.specs.Prelude.{◌+◌, ◌==◌, Bool, ◌&&◌, if◌then◌else◌, List, [], ◌∷◌, bytes_eq, nat_le, max}
use Rattle.std.specs.Ordering.{is_eq}
use Rattle.rep_op.specs.declared.op.Op.{Op}
use Rattle.rep_op.specs.declared.op.Op.TheVariants.{Ack}
use Rattle.rep_op.specs.Orders.{name_cmp}

-- the second operation has the name of the first, or is a range of its client and origin that
-- begins within it or right after
abbrev pub joins : Op → Op → Bool
joins (Ack c origin first last) (Ack d other start end) =
    bytes_eq c d && (origin == other) && nat_le start (last + 1)
joins a b = is_eq (name_cmp a b)

-- the first operation; of ranges, as far as both of them go
abbrev pub united : Op → Op → Op
united (Ack c origin first last) (Ack d other start end) = Ack c origin first (max last end)
united a b = a

-- an operation in front of others, joined with each of them that joins it
abbrev pub united_from : Op → List Op → List Op
united_from a [] = a ∷ []
united_from a (b ∷ rest) =
    if joins a b then united_from (united a b) rest else a ∷ united_from b rest

-- the operations with those of one name made one, and ranges that overlap or touch joined
abbrev pub joined_ops : List Op → List Op
joined_ops [] = []
joined_ops (a ∷ rest) = united_from a rest
